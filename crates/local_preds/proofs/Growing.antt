-- Truths along a process when more events come.
use Rattle.std.proofs.Common.{◌≡◌, ℕ, zero, suc, ◌+◌, ◌-◌, ◌<◌, ◌≤◌, min, ℤ, Bool, true, false, List, [], ◌∷◌, ◌++◌, length, map, take, get_or, refl, ap, sym, subst, ◌∙◌, arith, length-append}
use Rattle.std.specs.Prelude.{pos, ◌&&◌, nat_le, Option, Some, None}
use Rattle.std.specs.List.{range_with_len}
use Rattle.std.proofs.lemmas.Bool.{le-leb, leb-true, and_parts, and_from}
use Rattle.std.proofs.lemmas.List.{length-map, take-map, take-append-le, get_or_append_left}
use Rattle.std.proofs.lemmas.List.FromFn.{get_or-map-range_with_len}
use Rattle.run_model.specs.Run as run
use Rattle.run_model.specs.Run.{process_at, state_after, state_from}
use Rattle.event_log.specs.declared.log.Binding.{Binding}
use Rattle.event_log.specs.declared.log.Event.{Event}
use Rattle.event_log.specs.declared.log.Header.{Header}
use Rattle.event_log.specs.States.{StatesView, AreWhole, trace_of, event_of, variable_of}
use Rattle.event_log.proofs.Keeping.{process_is}
use Rattle.pull_system.specs.Growth.{PullGrows, PullStays}
use Rattle.pull_system.proofs.PullLists.{first_grows, first_passes, first_least}
use Rattle.rctl_parts.specs.Exprs.{Expr}
use Rattle.local_preds.specs.Rows.{value_at, watched_at, truth_at, truths_of, len_at}
use Rattle.local_preds.specs.LocalPulls.{is_true_from, next_true, local_pull, never_pull}
use Rattle.local_preds.specs.LocalRuns.{FitsProcess, HasGrownAt}
use Rattle.local_preds.proofs.Expressions.{Agree, same_truth}
use Rattle.local_preds.proofs.Truths.{next_at, never_at}
use Rattle.local_preds.proofs.RowSteps.{length-truths, lens-get_or}
use Rattle.local_preds.proofs.Meaning.{truth_at_cut}

-- ---- pulls of rows

-- these truths are the first of those
pub record IsFront (row later : List Bool) : Type 0 where
  pub shorter : length row ≤ length later
  pub same : (a : ℕ) → a < length row → get_or row a false ≡ get_or later a false

next_grows : (row later : List Bool) → IsFront row later → (x y : ℕ) → x ≤ y → next_true row x ≤ next_true later y
next_grows row later front x y h =
    first_grows (is_true_from row x) (is_true_from later y) (length row) (length later) front.shorter
    (λ k lt has.
    let parts = and_parts (nat_le y k) (get_or later k false) has in
    and_from _ _ (le-leb x k (omega (arith, leb-true _ _ parts.0))) (front.same k lt ∙ parts.1))

row_grows : (old lens : List ℕ) (p : ℕ) (row later : List Bool) → IsFront row later → length row ≡ get_or old p 0 + 1 → length later ≡ get_or lens p 0 + 1
    → PullGrows old lens (local_pull p row) (local_pull p later)
row_grows old lens p row later front size size' = record {
  source = refl;
  target = refl;
  asks = λ x within.
      let x' = min x (get_or old p 0 + 1) in
      omega (arith, next_at row x' (omega arith), next_at later x (omega arith), next_grows row later front x' x (omega arith));
}

pub never_grows : (old lens : List ℕ) → get_or old 0 0 ≤ get_or lens 0 0 → PullGrows old lens (never_pull old) (never_pull lens)
never_grows old lens longer = record {
  source = refl;
  target = refl;
  asks = λ x within. omega (arith, never_at old (min x (get_or old 0 0 + 1)) (omega arith), never_at lens x within);
}

-- ---- rows of a run that has grown

-- the state after an event that was there is as before
state_kept : (before after : StatesView) (watch_process : List (Option ℕ)) (old_rows new_rows : List (List Bool)) (p a : ℕ) → HasGrownAt before after watch_process old_rows new_rows p → a ≤ len_at before p
    → state_after (process_at (trace_of before) p) a ≡ state_after (process_at (trace_of after) p) a
state_kept before after watch_process old_rows new_rows p a grown within =
    let old = process_is before.header.procs before.header.vars before.events p (omega (arith, grown.old.events, grown.there)) (omega (arith, grown.old.events, grown.old.header.vars, grown.there)) grown.there in
    let procs : length after.header.procs ≡ length before.header.procs = ap (λ (h : Header). length h.procs) grown.header in
    let there : p < length after.events = omega (arith, grown.new.events, grown.old.events, grown.there, procs) in
    let new = process_is after.header.procs after.header.vars after.events p (omega (arith, grown.new.events)) (omega (arith, grown.new.events, grown.new.header.vars)) there in
    let opening : List Binding → List ℤ = λ vs. map (λ (v : run.Variable). v.value) (map variable_of vs) in
    let early : take a (map event_of (get_or after.events p [])) ≡ take a (map event_of (get_or before.events p [])) =
    take-map event_of a (get_or after.events p []) ∙ ap (λ (es : List Event). map event_of (take a es)) grown.events.1
    ∙ ap (map event_of) (take-append-le a (get_or before.events p []) grown.events.0 within) ∙ sym (take-map event_of a (get_or before.events p [])) in
    ap (λ (x : run.Process). state_after x a) old
    ∙ ap (λ (es : List run.Event). state_from (opening (get_or before.header.vars p [])) es) (sym early)
    ∙ ap (λ (h : Header). state_from (opening (get_or h.vars p [])) (take a (map event_of (get_or after.events p [])))) (sym grown.header)
    ∙ ap (λ (x : run.Process). state_after x a) (sym new)

truth_kept : (before after : StatesView) (watch_process : List (Option ℕ)) (old_rows new_rows : List (List Bool)) (p : ℕ) (e : Expr) → HasGrownAt before after watch_process old_rows new_rows p
    → FitsProcess before watch_process p e → (a : ℕ) → a ≤ len_at before p → truth_at before p old_rows e a ≡ truth_at after p new_rows e a
truth_kept before after watch_process old_rows new_rows p e grown fits a within =
    same_truth (length (get_or before.header.vars p [])) watch_process p (value_at before p a) (value_at after p a) (watched_at old_rows a) (watched_at new_rows a) e fits (record {
      values = λ v lt. ap (λ (s : List ℤ). get_or s v (pos 0)) (state_kept before after watch_process old_rows new_rows p a grown within);
      truths = λ w on.
          let more = grown.rows w on in
          let there : a < length (get_or old_rows w []) = omega (arith, (grown.full w on).1) in
          sym (get_or_append_left (get_or old_rows w []) more.0 false a there) ∙ ap (λ (row : List Bool). get_or row a false) (sym more.1);
    })

truths_front : (before after : StatesView) (watch_process : List (Option ℕ)) (old_rows new_rows : List (List Bool)) (p : ℕ) (e : Expr) → HasGrownAt before after watch_process old_rows new_rows p
    → FitsProcess before watch_process p e → IsFront (truths_of before p old_rows e) (truths_of after p new_rows e)
truths_front before after watch_process old_rows new_rows p e grown fits =
    let longer : len_at before p ≤ len_at after p =
    omega (arith, ap (λ (es : List Event). length es) grown.events.1, length-append (get_or before.events p []) grown.events.0) in
    record {
      shorter = omega (arith, longer, length-truths before p old_rows e, length-truths after p new_rows e);
      same = λ a lt.
          let within : a ≤ len_at before p = omega (arith, length-truths before p old_rows e) in
          truth_at_cut before p old_rows e a within ∙ truth_kept before after watch_process old_rows new_rows p e grown fits a within
          ∙ sym (truth_at_cut after p new_rows e a (omega (arith, longer)));
    }

pub local_grows : (before after : StatesView) (watch_process : List (Option ℕ)) (old_rows new_rows : List (List Bool)) (p : ℕ) (e : Expr) → HasGrownAt before after watch_process old_rows new_rows p
    → FitsProcess before watch_process p e
    → PullGrows (map length before.events) (map length after.events) (local_pull p (truths_of before p old_rows e)) (local_pull p (truths_of after p new_rows e))
local_grows before after watch_process old_rows new_rows p e grown fits =
    row_grows (map length before.events) (map length after.events) p (truths_of before p old_rows e) (truths_of after p new_rows e)
    (truths_front before after watch_process old_rows new_rows p e grown fits)
    (length-truths before p old_rows e ∙ ap (λ (n : ℕ). n + 1) (sym (lens-get_or before.events p)))
    (length-truths after p new_rows e ∙ ap (λ (n : ℕ). n + 1) (sym (lens-get_or after.events p)))

-- ---- pulls that stay

next_stays : (row later : List Bool) → IsFront row later → (x : ℕ) → next_true row x < length row → next_true later x ≤ next_true row x
next_stays row later front x found =
    let k : ℕ = next_true row x in
    let parts = and_parts (nat_le x k) (get_or row k false) (first_passes (is_true_from row x) (length row) found) in
    first_least (is_true_from later x) (length later) k (omega (arith, front.shorter)) (and_from _ _ parts.0 (sym (front.same k found) ∙ parts.1))

row_stays : (old : List ℕ) (p : ℕ) (row later : List Bool) → IsFront row later → length row ≡ get_or old p 0 + 1 → PullStays old (local_pull p row) (local_pull p later)
row_stays old p row later front size = record {
  asks = λ x le asked.
      let at_old = next_at row x (omega arith) in
      omega (arith, at_old, next_at later x (omega (arith, front.shorter)), next_stays row later front x (omega (arith, at_old, asked)));
}

pub never_stays : (old lens : List ℕ) → PullStays old (never_pull old) (never_pull lens)
never_stays old lens = record { asks = λ x le asked. absurd (omega (arith, never_at old x (omega arith), asked)) }

pub local_stays : (before after : StatesView) (watch_process : List (Option ℕ)) (old_rows new_rows : List (List Bool)) (p : ℕ) (e : Expr) → HasGrownAt before after watch_process old_rows new_rows p
    → FitsProcess before watch_process p e
    → PullStays (map length before.events) (local_pull p (truths_of before p old_rows e)) (local_pull p (truths_of after p new_rows e))
local_stays before after watch_process old_rows new_rows p e grown fits =
    row_stays (map length before.events) p (truths_of before p old_rows e) (truths_of after p new_rows e)
    (truths_front before after watch_process old_rows new_rows p e grown fits)
    (length-truths before p old_rows e ∙ ap (λ (n : ℕ). n + 1) (sym (lens-get_or before.events p)))
