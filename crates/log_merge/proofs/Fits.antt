-- The merged log fits its header.
use Rattle.std.proofs.Common.{◌≡◌, ℕ, zero, suc, ◌+◌, ◌<◌, ◌≤◌, Bool, true, false, List, map, [], ◌∷◌, length, refl, sym, ap, ◌∙◌, subst, arith, ◌⊎◌, inl, inr}
use Rattle.std.specs.Prelude.{◌==◌, ◌||◌, Contains}
use Rattle.std.specs.List.{list_any, AllByRecursion}
use Rattle.std.proofs.lemmas.Bool.{cases_Bool, eq-eqb}
use Rattle.std.proofs.lemmas.List.{append-nil, length-append}
use Rattle.std.proofs.lemmas.List.Folds.{Any-from_list_any, list_any-append}
use Rattle.pota_base.specs.Limits.{most_events}
use Rattle.log_lines.specs.Names.{are_distinct}
use Rattle.log_lines.specs.Spelling.{names_of}
use Rattle.event_log.specs.declared.log.Binding.{Binding}
use Rattle.event_log.specs.declared.log.Event.{Event}
use Rattle.event_log.specs.declared.log.Header.{Header}
use Rattle.event_log.specs.declared.log.Log.{Log}
use Rattle.event_log.specs.Numbers.{variables_at}
use Rattle.event_log.specs.LogText.{named, BindingsFit, ClockStands, KindFits, AssignFits, EventFits, EventsFit, BatchesFit, event_count, header_lines}
use Rattle.event_log.proofs.Lists.{all_append}
use Rattle.vector_clock.proofs.BatchLaws.{events_stand}
use Rattle.log_merge.specs.Sources.{IsSource, in_one_batch, own_vars_lines, own_event_lines}
use Rattle.log_merge.specs.Sources.{all_events, events_of, has_lines_of}
use Rattle.log_merge.specs.Merging.{Placed, placed_events, placed_in, placed_from, of_process, by_process, numbered, variables_in, all_variables, merged_header}
use Rattle.log_merge.specs.Laws.{StartAlike, AreApart, MergedLogsFit, LogsAreSources}
use Rattle.log_merge.proofs.Owned.{is_of, has_none}
use Rattle.log_merge.proofs.Gathers.{length-numbered, length-by_process, length-placed}
use Rattle.log_merge.proofs.Apart.{no_fault_is_apart, flat_one, flat_none, any_false, first_in, later_in, is_source}

-- ---- variables

at_fits : (vars : List (List Binding)) (p : ℕ) → AllByRecursion BindingsFit vars → BindingsFit (variables_at vars p)
at_fits [] p all = record { few = omega arith; each = tt; distinct = refl }
at_fits (v ∷ vars) zero all = all.0
at_fits (v ∷ vars) (suc p) all = at_fits vars p all.1

length-variables : (p n : ℕ) (sources : List Log) → length (all_variables p n sources) ≡ n
length-variables p zero sources = refl
length-variables p (suc n) sources = ap suc (length-variables (p + 1) n sources)

variables_fit : (p n : ℕ) (sources : List Log) → ((q : ℕ) → BindingsFit (variables_in q sources)) → AllByRecursion BindingsFit (all_variables p n sources)
variables_fit p zero sources fit = tt
variables_fit p (suc n) sources fit = (fit p, variables_fit (p + 1) n sources fit)

variables_at-all : (p n q : ℕ) (sources : List Log) → q < n → variables_at (all_variables p n sources) q ≡ variables_in (p + q) sources
variables_at-all p zero q sources lt = absurd (omega arith)
variables_at-all p (suc n) zero sources lt = let e : p + 0 ≡ p = omega arith in rw e refl
variables_at-all p (suc n) (suc q) sources lt = variables_at-all (p + 1) n q sources (omega arith) ∙ let e : p + 1 + q ≡ p + suc q = omega arith in ap (λ (k : ℕ). variables_in k sources) e

module _ (sources : List Log) (all : AllByRecursion IsSource sources) (apart : AreApart sources) where
  owned_variables : (p : ℕ) (s : Log) → Contains sources s → has_lines_of p s ≡ true → variables_in p sources ≡ variables_at s.header.vars p
  owned_variables p s has on = flat_one (λ (t : Log). variables_at t.header.vars p) (has_lines_of p) sources (λ t there none. (has_none p t (is_source sources all t there) none).variables) (apart.once p) s has on

  in_fits : (p : ℕ) → BindingsFit (variables_in p sources)
  in_fits p = go (cases_Bool (list_any (has_lines_of p) sources))
    where
      go : (list_any (has_lines_of p) sources ≡ true) ⊎ (list_any (has_lines_of p) sources ≡ false) → BindingsFit (variables_in p sources)
      go (inl some) =
          let any = Any-from_list_any (has_lines_of p) sources some in
          let has : Contains sources any.1 = (any.0, any.2, any.3) in
          subst BindingsFit (sym (owned_variables p any.1 has any.4)) (at_fits any.1.header.vars p (is_source sources all any.1 has).header.vars)
      go (inr none) =
          let empty : variables_in p sources ≡ [] = flat_none (λ (t : Log). variables_at t.header.vars p) sources (λ t there. (has_none p t (is_source sources all t there) (any_false (has_lines_of p) sources t there none)).variables) in
          subst BindingsFit (sym empty) (record { few = omega arith; each = tt; distinct = refl })

-- ---- events

batches_each : (h : Header) (line : ℕ) (bs : List (List Event)) → BatchesFit h line bs → AllByRecursion (EventFits h) (all_events bs)
batches_each h line [] fit = tt
batches_each h line (b ∷ bs) fit = all_append (EventFits h) b (all_events bs) (events_each line b fit.0) (batches_each h (line + length b + 1) bs fit.1)
  where
    events_each : (n : ℕ) (es : List Event) → EventsFit h n es → AllByRecursion (EventFits h) es
    events_each n [] f = tt
    events_each n (e ∷ es) f = (f.0.0, events_each (n + 1) es f.1)

length-all_events : (bs : List (List Event)) → length (all_events bs) ≡ event_count bs
length-all_events [] = refl
length-all_events (b ∷ bs) = omega (arith, length-append b (all_events bs), length-all_events bs)

-- one batch has the events of all
pub in_one : (s : Log) → events_of (in_one_batch s) ≡ events_of s
in_one s = append-nil (events_of s)

one_batch_fits : (s : Log) → IsSource s → IsSource (in_one_batch s)
one_batch_fits s source = record { header = source.header; lines = source.lines; events = subst (AllByRecursion (EventFits s.header)) (sym (in_one s)) source.events; few = omega (arith, source.few, ap length (in_one s)) }

pub logs_are_sources : LogsAreSources
logs_are_sources log fits lines =
    let source : IsSource log = record { header = fits.header; lines = lines; events = batches_each log.header (length (header_lines log.header) + 1) log.batches fits.batches; few = omega (arith, length-all_events log.batches, fits.few) } in
    (source, one_batch_fits log source)

-- it fits another header with the same processes and the same variables of its process
moved_fits : (g h : Header) (e : Event) → StartAlike g h → variables_at g.vars e.process ≡ variables_at h.vars e.process → EventFits g e → EventFits h e
moved_fits g h e alike vars fits =
    let len : length g.procs ≡ length h.procs = ap length alike.procs in
    record {
      process = omega (arith, fits.process, len);
      width = subst (λ (v : ℕ). ClockStands v (length h.procs) e.clock) alike.version (subst (λ (n : ℕ). ClockStands g.version n e.clock) len fits.width);
      clock = fits.clock;
      kind = subst (λ (n : ℕ). KindFits n e.process e.kind) len fits.kind;
      few = fits.few;
      assigns = subst (λ (v : List Binding). AllByRecursion (AssignFits v) e.assigns) vars fits.assigns;
      distinct = subst (λ (v : List Binding). are_distinct (names_of (map (named v) e.assigns)) ≡ true) vars fits.distinct;
    }

-- a new line changes nothing
line_fits : (h : Header) (e : Event) (n : ℕ) → EventFits h e → EventFits h (record e { line = n })
line_fits h e n fits = record { process = fits.process; width = fits.width; clock = fits.clock; kind = fits.kind; few = fits.few; assigns = fits.assigns; distinct = fits.distinct }

abbrev Fits : Header → Placed → Type 0
Fits h x = EventFits h x.event

filter_keeps : (h : Header) (p : ℕ) (xs : List Placed) → AllByRecursion (Fits h) xs → AllByRecursion (Fits h) (of_process p xs)
filter_keeps h p [] all = tt
filter_keeps h p (x ∷ xs) all = elim (cases_Bool (x.event.process == p)) [
  | inl on ↦ rw on (all.0, filter_keeps h p xs all.1)
  | inr off ↦ rw off (filter_keeps h p xs all.1)
]

order_keeps : (h : Header) (p n : ℕ) (xs : List Placed) → AllByRecursion (Fits h) xs → AllByRecursion (Fits h) (by_process p n xs)
order_keeps h p zero xs all = tt
order_keeps h p (suc n) xs all = all_append (Fits h) (of_process p xs) (by_process (p + 1) n xs) (filter_keeps h p xs all) (order_keeps h (p + 1) n xs all)

numbered_keeps : (h : Header) (n : ℕ) (xs : List Placed) → AllByRecursion (Fits h) xs → AllByRecursion (EventFits h) (numbered n xs)
numbered_keeps h n [] all = tt
numbered_keeps h n (x ∷ xs) all = (line_fits h x.event n all.0, numbered_keeps h (n + 1) xs all.1)

module _ (h : Header) (s : Log) (moves : (e : Event) → has_lines_of e.process s ≡ true → EventFits s.header e → EventFits h e) where
  events_move : (n : ℕ) (es : List Event) → ((q : ℕ) → list_any (is_of q) (own_event_lines es) ≡ true → has_lines_of q s ≡ true) → AllByRecursion (EventFits s.header) es → AllByRecursion (Fits h) (placed_events n es)
  events_move n [] sub all = tt
  events_move n (e ∷ es) sub all = (
    moves e (sub e.process (ap (λ (b : Bool). b || list_any (is_of e.process) (own_event_lines es)) (eq-eqb e.process e.process refl))) all.0,
    events_move n es (λ q some. sub q (or_true (e.process == q) (list_any (is_of q) (own_event_lines es)) some)) all.1,
  )
    where
      or_true : (a b : Bool) → b ≡ true → (a || b) ≡ true
      or_true true b e = refl
      or_true false b e = e

  source_moves : (n : ℕ) → IsSource s → AllByRecursion (Fits h) (placed_in n s)
  source_moves n source = events_move n (events_of s) (λ q some. list_any-append (is_of q) (own_vars_lines 0 s.header.var_lines) (own_event_lines (events_of s)) ∙ or_right (list_any (is_of q) (own_vars_lines 0 s.header.var_lines)) (list_any (is_of q) (own_event_lines (events_of s))) some)
      source.events
    where
      or_right : (a b : Bool) → b ≡ true → (a || b) ≡ true
      or_right true b e = refl
      or_right false b e = e

all_move : (h : Header) (n : ℕ) (xs : List Log) → ((s : Log) → Contains xs s → (k : ℕ) → AllByRecursion (Fits h) (placed_in k s)) → AllByRecursion (Fits h) (placed_from n xs)
all_move h n [] each = tt
all_move h n (s ∷ xs) each = all_append (Fits h) (placed_in n s) (placed_from (n + 1) xs) (each s (first_in s xs) n) (all_move h (n + 1) xs (λ t there. each t (later_in s t xs there)))

pub merged_logs_fit : MergedLogsFit
merged_logs_fit [] some all none = absurd (omega arith)
merged_logs_fit (x ∷ xs) some all none =
    let sources = x ∷ xs in
    let apart = (no_fault_is_apart (x ∷ xs)).0 none in
    let h = merged_header (x ∷ xs) in
    let n = length x.header.procs in
    let moves : (s : Log) → Contains (x ∷ xs) s → (e : Event) → has_lines_of e.process s ≡ true → EventFits s.header e → EventFits (merged_header (x ∷ xs)) e = λ s has e on fits.
    let alike : StartAlike s.header x.header = apart.same s x has (first_in x xs) in
    let there : e.process < length x.header.procs = omega (arith, fits.process, ap length alike.procs) in
    let zero_plus : 0 + e.process ≡ e.process = omega arith in
    let vars : variables_at s.header.vars e.process ≡ variables_at (all_variables 0 (length x.header.procs) (x ∷ xs)) e.process = sym (variables_at-all 0 (length x.header.procs) e.process (x ∷ xs) there ∙ ap (λ (k : ℕ). variables_in k (x ∷ xs)) zero_plus ∙ owned_variables (x ∷ xs) all apart e.process s has on) in
    moved_fits s.header (merged_header (x ∷ xs)) e (record { version = alike.version; procs = alike.procs }) vars fits in
    let events : List Placed = by_process 0 n (placed_from 1 (x ∷ xs)) in
    let fit : AllByRecursion (EventFits h) (numbered 1 events) = numbered_keeps h 1 events (order_keeps h 0 n (placed_from 1 (x ∷ xs)) (all_move h 1 (x ∷ xs) (λ s has k. source_moves h s (moves s has) k (is_source (x ∷ xs) all s has)))) in
    let few : length (numbered 1 events) + 0 ≤ most_events = omega (arith, apart.small, length-numbered 1 events, length-by_process 0 n (placed_from 1 (x ∷ xs)), length-placed 1 (x ∷ xs)) in
    record {
      header = record { version = all.0.header.version; procs = all.0.header.procs; all = length-variables 0 n (x ∷ xs); vars = variables_fit 0 n (x ∷ xs) (in_fits (x ∷ xs) all apart) };
      events = fit;
      checked = record { some = all.0.header.procs.some; few = all.0.header.procs.few; each = (events_stand h (numbered 1 events) fit, tt); events = few };
    }
