-- The rows of counts hold how many events are kept.
use Rattle.std.proofs.Common.{◌≡◌, ℕ, zero, suc, ◌+◌, ◌<◌, ◌≤◌, List, [], ◌∷◌, ◌++◌, length, map, get_or, take, count_by, refl, sym, ap, ◌∙◌, subst, arith, inl, inr, append-nil, append_assoc, length-append}
use Rattle.std.specs.Prelude.{◌==◌, if◌then◌else◌}
use Rattle.std.proofs.lemmas.Bool.{cases_Bool, cases_eq, cases_lt, cond-true, cond-false, eq-eqb, ne_eqb}
use Rattle.std.proofs.lemmas.List.{length-replicate, length-map, get_or_past, get_or_append_left, take_more}
use Rattle.std.proofs.Math.Seq.{get_or-append_seam}
use Rattle.run_model.specs.Run as run
use Rattle.kept_runs.specs.Kept as kept
use Rattle.kept_runs.specs.Kept.{Names, kept_count}
use Rattle.kept_runs.proofs.Lists.{counted_first, counted_later}
use Rattle.event_log.specs.declared.log.Event.{Event}
use Rattle.event_log.specs.declared.log.Log.{Log}
use Rattle.event_log.specs.LogText.{event_count}
use Rattle.event_log.specs.States.{event_of, trace_of_log}
use Rattle.vector_clock.specs.Events.{Events, no_events, own_events}
use Rattle.vector_clock.proofs.Growth.{length-with_batch}
use Rattle.clock_laws.specs.Joined.{as_one}
use Rattle.clock_laws.proofs.Joined.{joined_events}
use Rattle.clock_laws.proofs.Own.{of_process, of_here, of_other, own_added}
use Rattle.kept_log.specs.declared.numbers.Numbers.{Numbers}
use Rattle.kept_log.specs.declared.counts.Row.{Row}
use Rattle.kept_log.specs.inside.Numbered as by
use Rattle.kept_log.specs.inside.Counted.{first_row, row_counted, row_with, row_with_all, counts_of, all_counts}
use Rattle.kept_log.proofs.Folded.{log_events}
use Rattle.kept_log.proofs.Messages.{process_events}
use Rattle.kept_log.proofs.ByNumbers.{numbers_of, kept_same}
use Rattle.kept_log.proofs.Counted.{AreCounts}

-- so many of the events of a process up to each one are kept, behind so many before these
abbrev pub counts_from : Numbers → ℕ → ℕ → List Event → List ℕ
counts_from numbers p n [] = []
counts_from numbers p n (e ∷ es) =
    if e.process == p
    then (if by.is_kept numbers e then (n + 1) ∷ counts_from numbers p (n + 1) es else n ∷ counts_from numbers p n es)
    else counts_from numbers p n es

none_there : (n p : ℕ) → own_events (no_events n) p ≡ []
none_there zero p = refl
none_there (suc n) zero = refl
none_there (suc n) (suc p) = none_there n p

row_is : (trace : run.Trace) (names : Names) (p n : ℕ) (es : List Event) (a : ℕ) → a ≤ length (of_process es p)
    → get_or (n ∷ counts_from (numbers_of trace names) p n es) a 0 ≡ n + count_by (kept.is_kept trace names p) (take a (map event_of (of_process es p)))
row_is trace names p n es zero h = omega arith
row_is trace names p n [] (suc a) h = absurd (omega (arith, h))
row_is trace names p n (e ∷ es) (suc a) h = elim (cases_eq e.process p) [
  | inl same ↦
      let own = of_here e es p same in
      let rest : List run.Event = map event_of (of_process es p) in
      let le : a ≤ length (of_process es p) = omega (arith, h, ap length own) in
      let whole : count_by (kept.is_kept trace names p) (take (suc a) (map event_of (of_process (e ∷ es) p))) ≡ count_by (kept.is_kept trace names p) (event_of e ∷ take a rest) =
      ap (λ (xs : List Event). count_by (kept.is_kept trace names p) (take (suc a) (map event_of xs))) own in
      let told : kept.is_kept trace names p (event_of e) ≡ by.is_kept (numbers_of trace names) e = ap (λ (k : ℕ). kept.is_kept trace names k (event_of e)) (sym same) ∙ sym (kept_same trace names e) in
      elim (cases_Bool (by.is_kept (numbers_of trace names) e)) [
        | inl on ↦
            ap (λ (r : List ℕ). get_or (n ∷ r) (suc a) 0) (cond-true (e.process == p) _ _ (eq-eqb e.process p same) ∙ cond-true (by.is_kept (numbers_of trace names) e) _ _ on)
            ∙ row_is trace names p (n + 1) es a le
            ∙ omega (arith, whole, counted_first (kept.is_kept trace names p) (event_of e) (take a rest) (told ∙ on))
        | inr off ↦
            ap (λ (r : List ℕ). get_or (n ∷ r) (suc a) 0) (cond-true (e.process == p) _ _ (eq-eqb e.process p same) ∙ cond-false (by.is_kept (numbers_of trace names) e) _ _ off)
            ∙ row_is trace names p n es a le
            ∙ omega (arith, whole, counted_later (kept.is_kept trace names p) (event_of e) (take a rest) (told ∙ off))
      ]
  | inr other ↦
      let own = of_other e es p other in
      ap (λ (r : List ℕ). get_or (n ∷ r) (suc a) 0) (cond-false (e.process == p) _ _ (ne_eqb e.process p other))
      ∙ row_is trace names p n es (suc a) (omega (arith, h, ap length own))
      ∙ ap (λ (xs : List Event). n + count_by (kept.is_kept trace names p) (take (suc a) (map event_of xs))) (sym own)
]

-- the events of a process of the run, and none past the last one
pub many_rows : (log : Log) → length (log_events log) ≡ length log.header.procs
many_rows log =
    let procs = length log.header.procs in
    ap length (sym (joined_events (no_events procs) log.batches)) ∙ length-with_batch (no_events procs) (as_one log.batches) ∙ length-replicate procs []

none_past : (log : Log) → length log.header.vars ≡ length log.header.procs → (p a : ℕ) → length log.header.procs ≤ p → a ≤ length (run.process_at (trace_of_log log) p).events → a ≡ 0
none_past log vars p a past h =
    let events = process_events log.header.procs log.header.vars (log_events log) vars (many_rows log) p in
    let none : own_events (log_events log) p ≡ [] = get_or_past (log_events log) p [] (omega (arith, past, many_rows log)) in
    omega (arith, h, ap length (events ∙ ap (map event_of) none))

rows_hold : (log : Log) (names : Names) → length log.header.vars ≡ length log.header.procs → (p a : ℕ) → p < length log.header.procs → a ≤ length (run.process_at (trace_of_log log) p).events
    → get_or (0 ∷ counts_from (numbers_of (trace_of_log log) names) p 0 (as_one log.batches)) a 0 ≡ kept_count (trace_of_log log) names p a
rows_hold log names vars p a there h =
    let procs = length log.header.procs in
    let whole = as_one log.batches in
    let trace = trace_of_log log in
    let own : own_events (log_events log) p ≡ of_process whole p =
    ap (λ (x : Events). own_events x p) (sym (joined_events (no_events procs) log.batches)) ∙ own_added (no_events procs) whole p (omega (arith, there, length-replicate {A = List Event} procs []))
    ∙ ap (λ (xs : List Event). xs ++ of_process whole p) (none_there procs p) in
    let all : (run.process_at trace p).events ≡ map event_of (of_process whole p) =
    process_events log.header.procs log.header.vars (log_events log) vars (many_rows log) p ∙ ap (map event_of) own in
    row_is trace names p 0 whole a (omega (arith, h, ap length all, length-map (of_process whole p) event_of))
    ∙ omega (arith, ap (λ (xs : List run.Event). count_by (kept.is_kept trace names p) (take a xs)) all)

-- ---- what the rows are

counts_are : (numbers : Numbers) (row : Row) (es : List Event) → (row_with_all numbers row es).counts ≡ row.counts ++ counts_from numbers row.process row.kept es
unfolding row_with_all
counts_are numbers row [] = sym (append-nil row.counts)
counts_are numbers row (e ∷ es) = elim (cases_Bool (e.process == row.process)) [
  | inl own ↦ elim (cases_Bool (by.is_kept numbers e)) [
    | inl on ↦
        ap (λ (r : Row). (row_with_all numbers r es).counts) (cond-true (e.process == row.process) _ _ own ∙ ap (row_counted row) (cond-true (by.is_kept numbers e) (row.kept + 1) row.kept on))
        ∙ counts_are numbers (row_counted row (row.kept + 1)) es
        ∙ append_assoc row.counts ((row.kept + 1) ∷ []) (counts_from numbers row.process (row.kept + 1) es)
        ∙ ap (λ (cs : List ℕ). row.counts ++ cs) (sym (cond-true (e.process == row.process) _ _ own ∙ cond-true (by.is_kept numbers e) _ _ on))
    | inr off ↦
        ap (λ (r : Row). (row_with_all numbers r es).counts) (cond-true (e.process == row.process) _ _ own ∙ ap (row_counted row) (cond-false (by.is_kept numbers e) (row.kept + 1) row.kept off))
        ∙ counts_are numbers (row_counted row row.kept) es
        ∙ append_assoc row.counts (row.kept ∷ []) (counts_from numbers row.process row.kept es)
        ∙ ap (λ (cs : List ℕ). row.counts ++ cs) (sym (cond-true (e.process == row.process) _ _ own ∙ cond-false (by.is_kept numbers e) _ _ off))
  ]
  | inr other ↦
      ap (λ (r : Row). (row_with_all numbers r es).counts) (cond-false (e.process == row.process) _ _ other)
      ∙ counts_are numbers row es
      ∙ ap (λ (cs : List ℕ). row.counts ++ cs) (sym (cond-false (e.process == row.process) _ _ other))
]

length-all_counts : (numbers : Numbers) (es : List Event) (n : ℕ) → length (all_counts numbers es n) ≡ n
unfolding all_counts
length-all_counts numbers es zero = refl
length-all_counts numbers es (suc n) = omega (arith, length-append (all_counts numbers es n) (counts_of numbers es n ∷ []), length-all_counts numbers es n)

row_there : (numbers : Numbers) (es : List Event) (n j : ℕ) → j < n → get_or (all_counts numbers es n) j [] ≡ counts_of numbers es j
unfolding all_counts
row_there numbers es zero j lt = absurd (omega (arith, lt))
row_there numbers es (suc n) j lt = elim (cases_lt j n) [
  | inl below ↦ get_or_append_left (all_counts numbers es n) (counts_of numbers es n ∷ []) [] j (omega (arith, below, length-all_counts numbers es n)) ∙ row_there numbers es n j below
  | inr last ↦
      let is : j ≡ n = omega (arith, last, lt) in
      ap (λ (k : ℕ). get_or (all_counts numbers es n ++ counts_of numbers es n ∷ []) k []) (is ∙ sym (length-all_counts numbers es n))
      ∙ get_or-append_seam (all_counts numbers es n) (counts_of numbers es n) [] []
      ∙ ap (counts_of numbers es) (sym is)
]

pub are_counts : (log : Log) (names : Names) → length log.header.vars ≡ length log.header.procs
    → AreCounts (trace_of_log log) names (all_counts (numbers_of (trace_of_log log) names) (as_one log.batches) (length log.header.procs))
are_counts log names vars j a within =
    let trace = trace_of_log log in
    let procs = length log.header.procs in
    let whole = as_one log.batches in
    let numbers = numbers_of trace names in
    elim (cases_lt j procs) [
      | inl there ↦
          ap (λ (row : List ℕ). get_or row a 0) (row_there numbers whole procs j there ∙ counts_are numbers (first_row j) whole)
          ∙ rows_hold log names vars j a there within
      | inr past ↦
          ap (λ (row : List ℕ). get_or row a 0) (get_or_past (all_counts numbers whole procs) j [] (omega (arith, past, length-all_counts numbers whole procs)))
          ∙ subst (λ (k : ℕ). get_or [] k 0 ≡ kept_count trace names j k) (sym (none_past log vars j a past within)) refl
    ]

-- ---- steps of the loops

pub row_append : (numbers : Numbers) (row : Row) (xs ys : List Event) → row_with_all numbers row (xs ++ ys) ≡ row_with_all numbers (row_with_all numbers row xs) ys
unfolding row_with_all
row_append numbers row [] ys = refl
row_append numbers row (x ∷ xs) ys = row_append numbers (row_with numbers row x) xs ys

pub row_none : (numbers : Numbers) (row : Row) → row_with_all numbers row [] ≡ row
unfolding row_with_all
row_none numbers row = refl

pub row_more : (numbers : Numbers) (row : Row) (es : List Event) (i : ℕ) (e : Event) → i < length es → e ≡ get_or es i e → row_with_all numbers row (take (i + 1) es) ≡ row_with numbers (row_with_all numbers row (take i es)) e
unfolding row_with_all
row_more numbers row es i e lt is =
    ap (row_with_all numbers row) (take_more es i e lt ∙ ap (λ (y : Event). take i es ++ y ∷ []) (sym is))
    ∙ row_append numbers row (take i es) (e ∷ [])

one_more : (numbers : Numbers) (row : Row) (e : Event) → (row_with numbers row e).kept ≤ row.kept + 1
one_more numbers row e =
    let next : ℕ = if by.is_kept numbers e then row.kept + 1 else row.kept in
    elim (cases_Bool (e.process == row.process)) [
      | inl own ↦
          let is : row_with numbers row e ≡ row_counted row next = cond-true (e.process == row.process) (row_counted row next) row own in
          elim (cases_Bool (by.is_kept numbers e)) [
            | inl on ↦
                let more : next ≡ row.kept + 1 = cond-true (by.is_kept numbers e) (row.kept + 1) row.kept on in
                omega (arith, ap (λ (r : Row). r.kept) is, more)
            | inr off ↦
                let same : next ≡ row.kept = cond-false (by.is_kept numbers e) (row.kept + 1) row.kept off in
                omega (arith, ap (λ (r : Row). r.kept) is, same)
          ]
      | inr other ↦
          let is : row_with numbers row e ≡ row = cond-false (e.process == row.process) (row_counted row next) row other in
          omega (arith, ap (λ (r : Row). r.kept) is)
    ]

pub kept_within : (numbers : Numbers) (row : Row) (es : List Event) → (row_with_all numbers row es).kept ≤ row.kept + length es
unfolding row_with_all
kept_within numbers row [] = omega arith
kept_within numbers row (e ∷ es) =
    let rest = kept_within numbers (row_with numbers row e) es in
    omega (arith, rest, one_more numbers row e)

pub few_before : (batches : List (List Event)) (i : ℕ) (b : List Event) → i < length batches → b ≡ get_or batches i b → length (as_one (take i batches)) + length b ≤ event_count batches
few_before [] i b lt is = absurd (omega (arith, lt))
few_before (x ∷ batches) zero b lt is = omega (arith, ap length is)
few_before (x ∷ batches) (suc i) b lt is =
    let rest = few_before batches i b (omega (arith, lt)) is in
    omega (arith, rest, length-append x (as_one (take i batches)))

pub counts_none : (numbers : Numbers) (es : List Event) → all_counts numbers es 0 ≡ []
unfolding all_counts
counts_none numbers es = refl

pub counts_more : (numbers : Numbers) (es : List Event) (n : ℕ) → all_counts numbers es (n + 1) ≡ all_counts numbers es n ++ counts_of numbers es n ∷ []
unfolding all_counts
counts_more numbers es n =
    let next : n + 1 ≡ suc n = omega arith in
    ap (all_counts numbers es) next
