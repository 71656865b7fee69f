-- No counter of the formula falls in a log that gets a report.
use Rattle.std.proofs.Common.{◌≡◌, ℕ, ◌<◌, ◌≤◌, Bool, true, false, ℤ, pos, ◌≤ℤ◌, Option, Some, None, List, [], ◌∷◌, ◌++◌, length, map, take, get_or, inl, inr, refl, sym, ap, subst, ◌∙◌, arith}
use Rattle.std.specs.Prelude.{All, ◌||◌, if◌then◌else◌, set}
use Rattle.std.specs.List.{AllByRecursion, list_any}
use Rattle.std.proofs.lemmas.Bool.{cases_lt, or_parts}
use Rattle.std.proofs.lemmas.Int.{ints}
use Rattle.std.proofs.lemmas.List.{get_or_past, length-map, length-set}
use Rattle.std.proofs.lemmas.List.Elements.{All-nil, All-cons}
use Rattle.rctl_grammar.specs.declared.fault.FormulaFault.{FormulaFault}
use Rattle.run_model.specs.Run as run
use Rattle.run_model.specs.Run.{Name, Run, Process, Watches, no_process, run_of, value_of, process_at, number_of, opening_state, assigned, state_from}
use Rattle.run_model.specs.Formula.{Formula}
use Rattle.run_model.specs.Class.{NeverFalls, IsKeptFor}
use Rattle.event_log.specs.declared.item.LogFault.{LogFault}
use Rattle.event_log.specs.declared.log.Binding.{Binding}
use Rattle.event_log.specs.declared.log.Event.{Event}
use Rattle.event_log.specs.declared.log.Header.{Header}
use Rattle.event_log.specs.LogText.{HeaderFits}
use Rattle.event_log.specs.States.{StatesView, AreWhole, trace_of}
use Rattle.event_log.proofs.NameNumbers.{names_are, variables_are, header_known}
use Rattle.vector_clock.specs.Events.{no_events}
use Rattle.vector_clock.proofs.Growth.{length-with_batch}
use Rattle.counter_preds.specs.declared.values.Variable.{Variable}
use Rattle.counter_preds.specs.Counters.{IsVariable, IsCounter, value_in}
use Rattle.counter_preds.specs.Falls.{fall_fault, fall_of, is_lowered, behind_event, behind_batch}
use Rattle.counter_preds.specs.Truth.{process_of, variable_of}
use Rattle.counter_preds.proofs.Meaning.{named_value, never_falls}
use Rattle.counter_preds.proofs.Staying.{counters_stay_lem, opened_counter}
use Rattle.log_rules.specs.SoFar.{trace_so_far}
use Rattle.log_rules.specs.Judgement.{Prefix, states_of, with_clocks, clock_fault, with_rules}
use Rattle.rctl_class.specs.Counters.{Counter, counters_of, NoneFalls}
use Rattle.rctl_class.proofs.Kept.{stays_kept}
use Rattle.log_rules.specs.Counters.{variable_in, counters_in}
use Rattle.log_rules.specs.Readings.{Reading, IsReading}
use Rattle.log_rules.specs.Due.{due}
use Rattle.log_rules.specs.Reported.{reported}
use Rattle.log_rules.proofs.Items.{prefix_at}
use Rattle.log_rules.proofs.Orders.{event_count_is, with_batches-push, chosen_none}
use Rattle.log_rules.proofs.Sound.{Follows, all_sound}

-- ---- one counter among several

none_here : (b : Bool) (fault : LogFault) (rest : Option LogFault) → (if b then Some fault else rest) ≡ None → (b ≡ false) × (rest ≡ None)
none_here true fault rest none = cc
none_here false fault rest none = (refl, none)

-- where none of the variables falls, the first one doesn't, and the others don't
parted : (states : StatesView) (x : Variable) (xs : List Variable) (batch : List Event) → fall_fault states (x ∷ xs) batch ≡ None
    → (fall_fault states (x ∷ []) batch ≡ None) × (fall_fault states xs batch ≡ None)
unfolding fall_fault
parted states x xs [] none = (refl, refl)
parted states x xs (e ∷ rest) none =
    let here = none_here (is_lowered states e x || list_any (is_lowered states e) xs) (fall_of e) (fall_fault (behind_event states e) (x ∷ xs) rest) none in
    let both = or_parts (is_lowered states e x) (list_any (is_lowered states e) xs) here.0 in
    let later = parted (behind_event states e) x xs rest here.1 in
    (rw both.0 later.0, rw both.1 later.1)

stays : (states : StatesView) → AreWhole states → (x : Variable) (batch : List Event) → IsVariable states x → IsCounter states x
    → fall_fault states (x ∷ []) batch ≡ None → IsCounter (behind_batch states batch) x
stays states whole x batch is rises none =
    let all_of : (P : Variable → Type 0) → P x → All P (x ∷ []) = λ P p. All-cons P x [] p (All-nil P) in
    counters_stay_lem states (x ∷ []) batch whole (all_of (IsVariable states) is) (all_of (IsCounter states) rises) none 0 x (omega arith)

-- ---- logs in which no counter falls

-- a variable that is there never falls
abbrev pub Rises : StatesView → Variable → Type 0
Rises states x = IsVariable states x → IsCounter states x

rises_behind : (states : StatesView) → AreWhole states → (xs : List Variable) (batch : List Event) → fall_fault states xs batch ≡ None
    → AllByRecursion (Rises states) xs → AllByRecursion (Rises (behind_batch states batch)) xs
rises_behind states whole [] batch none rises = tt
rises_behind states whole (x ∷ xs) batch none rises =
    let parts = parted states x xs batch none in (
      λ is.
          let was : IsVariable states x = record { process = omega (arith, is.process, length-with_batch states.events batch); variable = is.variable } in
          stays states whole x batch was (rises.0 was) parts.0,
      rises_behind states whole xs batch parts.1 rises.1,
    )

rises_first : (h : Header) (xs : List Variable) → AllByRecursion (Rises (states_of (prefix_at h []))) xs
rises_first h [] = tt
rises_first h (x ∷ xs) = (λ is. opened_counter h x, rises_first h xs)

record IsRising (counters : Header → List Variable) (log : Prefix) : Type 0 where
  fits : HeaderFits log.header
  each : AllByRecursion (Rises (states_of log)) (counters log.header)

pub whole_log : (log : Prefix) → HeaderFits log.header → AreWhole (states_of log)
whole_log log fits = record { header = header_known log.header fits; events = event_count_is log }

rising_first : (counters : Header → List Variable) (h : Header) → HeaderFits h → IsRising counters (prefix_at h [])
rising_first counters h fits = record { fits = fits; each = rises_first h (counters h) }

module _ (names : Header → Option FormulaFault) (counters : Header → List Variable) where
  rising_next : Follows (with_rules names counters) (IsRising counters)
  rising_next log since is fits none =
      let full = with_clocks log since in
      let free = chosen_none (fall_fault (states_of log) (counters log.header) full) (clock_fault log full) none in
      let more = rises_behind (states_of log) (whole_log log is.fits) (counters log.header) full free.0 is.each in
      record {
        fits = is.fits;
        each = subst (λ (ess : List (List Event)). AllByRecursion (Rises (record { header = log.header; events = ess })) (counters log.header)) (sym (with_batches-push (no_events (length log.header.procs)) log.batches full)) more;
      }

-- ---- by names

assigned_long : (state : List ℤ) (assigns : List run.Assignment) → length (assigned state assigns) ≡ length state
unfolding assigned
assigned_long state [] = refl
assigned_long state (a ∷ assigns) = assigned_long (set state a.variable a.value) assigns ∙ length-set state a.variable a.value

state_long : (state : List ℤ) (events : List run.Event) → length (state_from state events) ≡ length state
unfolding state_from
state_long state [] = refl
state_long state (e ∷ rest) = state_long (assigned state e.assigns) rest ∙ assigned_long state e.assigns

-- a variable that a process hasn't has one value always
pub value_absent : (p : Process) (a n : ℕ) → length p.variables ≤ n → value_of p a n ≡ pos 0
value_absent p a n past =
    get_or_past (run.state_after p a) n (pos 0) (omega (arith, past, state_long (opening_state p) (take a p.events), length-map p.variables (λ (v : run.Variable). v.value)))

same_le : (a b : ℤ) → a ≡ b → a ≤ℤ b
same_le a b same = subst (λ z. a ≤ℤ z) same (omega (arith, ints))

module _ (states : StatesView) (watches : Watches) (whole : AreWhole states) where
  abbrev r : Run
  r = run_of (trace_of states) watches

  abbrev counter : Name → Name → Counter
  counter process variable = record { process = process; variable = variable }

  -- what a variable is by its names
  abbrev by_names : Process → Name → ℕ → ℤ
  by_names p variable a = value_of p a (number_of variable (map (λ (v : run.Variable). v.name) p.variables))

  rises_in : (x : Variable) → IsVariable states x → IsCounter states x → (a b : ℕ) → a ≤ b → value_in states x a ≤ℤ value_in states x b
  rises_in x is rising a b up =
      subst (λ (z : ℤ). z ≤ℤ value_in states x b) (named_value states watches whole x is a)
      (subst (λ (z : ℤ). r.value (r.process (process_of states x)) (variable_of states x) a ≤ℤ z) (named_value states watches whole x is b)
      (never_falls states watches x whole is rising a b up))

  -- a variable of one value never falls
  one_value : (process variable : Name) → ((a : ℕ) → r.value (r.process process) variable a ≡ pos 0) → NeverFalls r process variable
  one_value process variable is a b up = same_le _ _ (is a ∙ sym (is b))

  process_number : (process : Name) → r.process process ≡ number_of process states.header.procs
  process_number process = ap (number_of process) (names_are states whole.header.vars whole.events)

  -- the process isn't there
  no_process_named : (process variable : Name) → length states.events ≤ number_of process states.header.procs → NeverFalls r process variable
  no_process_named process variable past =
      let long : length (trace_of states) ≡ length states.header.procs =
      sym (length-map (trace_of states) (λ (p : Process). p.name)) ∙ ap (λ (ns : List Name). length ns) (names_are states whole.header.vars whole.events) in
      let none : process_at (trace_of states) (r.process process) ≡ no_process =
      get_or_past (trace_of states) (r.process process) no_process (omega (arith, past, long, whole.events, process_number process)) in
      one_value process variable (λ a. ap (λ (p : Process). by_names p variable a) none ∙ value_absent no_process a _ (omega arith))

  named_number : (process variable : Name) → number_of process states.header.procs < length states.events
      → number_of variable (map (λ (v : run.Variable). v.name) (process_at (trace_of states) (number_of process states.header.procs)).variables) ≡ (variable_in states.header (counter process variable)).number
  named_number process variable there =
      ap (number_of variable) (variables_are states (number_of process states.header.procs) whole.header.vars whole.events there)

  by_number : (process variable : Name) → number_of process states.header.procs < length states.events → (a : ℕ)
      → r.value (r.process process) variable a ≡ value_in states (variable_in states.header (counter process variable)) a
  by_number process variable there a =
      ap (λ (i : ℕ). r.value i variable a) (process_number process)
      ∙ ap (λ (k : ℕ). value_of (process_at (trace_of states) (number_of process states.header.procs)) a k) (named_number process variable there)

  variable_count : (i : ℕ) → i < length states.events → length (process_at (trace_of states) i).variables ≡ length (get_or states.header.vars i [])
  variable_count i there =
      sym (length-map (process_at (trace_of states) i).variables (λ (v : run.Variable). v.name))
      ∙ ap (λ (ns : List Name). length ns) (variables_are states i whole.header.vars whole.events there)
      ∙ length-map (get_or states.header.vars i []) (λ (b : Binding). b.name)

  rising_named : (c : Counter) → Rises states (variable_in states.header c) → NeverFalls r c.process c.variable
  rising_named c rises = elim (cases_lt x.process (length states.events)) [
    | inr past ↦ no_process_named c.process c.variable past
    | inl there ↦ elim (cases_lt x.number (length (get_or states.header.vars x.process []))) [
      | inr past ↦ one_value c.process c.variable (λ a. by_number c.process c.variable there a
          ∙ value_absent (process_at (trace_of states) x.process) a x.number (omega (arith, past, variable_count x.process there)))
      | inl has ↦
          let is : IsVariable states x = record { process = there; variable = has } in
          λ a b up. subst (λ (z : ℤ). z ≤ℤ r.value (r.process c.process) c.variable b) (sym (by_number c.process c.variable there a))
          (subst (λ (z : ℤ). value_in states x a ≤ℤ z) (sym (by_number c.process c.variable there b)) (rises_in x is (rises is) a b up))
    ]
  ]
    where
      x : Variable
      x = variable_in states.header c

  -- ---- formulas

  none_falls : (counters : List Counter) → AllByRecursion (Rises states) (map (variable_in states.header) counters) → NoneFalls r counters
  none_falls [] each = All-nil (λ (c : Counter). NeverFalls r c.process c.variable)
  none_falls (c ∷ counters) each =
      All-cons (λ (c : Counter). NeverFalls r c.process c.variable) c counters (rising_named c each.0) (none_falls counters each.1)

  pub kept_for : (f : Formula) → AllByRecursion (Rises states) (counters_in f states.header) → IsKeptFor r f
  kept_for f each = stays_kept r f (none_falls (counters_of f) each)

-- ---- what gets a report

module _ (f : Formula) (watches : Watches) where
  -- no variable of the formula's differences falls in the run of the log so far
  abbrev pub IsKept : Prefix → Type 0
  IsKept log = IsKeptFor (run_of (trace_so_far log.header log.batches) watches) f

  rising_kept : (logs : List Prefix) → AllByRecursion (IsRising (counters_in f)) logs → AllByRecursion IsKept logs
  rising_kept [] each = tt
  rising_kept (log ∷ logs) each =
      (kept_for (states_of log) watches (whole_log log each.0.fits) f each.0.each, rising_kept logs each.1)

  pub all_kept : (most : ℕ) (reading : Reading) → IsReading most reading → (names : Header → Option FormulaFault) (each ended : Bool) (bytes : List ℕ)
      → AllByRecursion IsKept (reported each (due reading (with_rules names (counters_in f)) ended bytes))
  all_kept most reading is names each ended bytes =
      rising_kept (reported each (due reading (with_rules names (counters_in f)) ended bytes))
      (all_sound (with_rules names (counters_in f)) (IsRising (counters_in f)) (rising_first (counters_in f)) (rising_next names (counters_in f)) most reading is ended bytes each)
