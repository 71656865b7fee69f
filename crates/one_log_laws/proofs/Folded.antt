-- A log folded to what is named can be written and read again where the log can.
use Rattle.std.proofs.Common.{◌≡◌, ℕ, zero, suc, ◌+◌, ◌≤◌, Bool, true, false, not, Option, Some, List, [], ◌∷◌, length, map, get_or, sum, filter, refl, sym, ap, subst, ◌∙◌, ◌⊎◌, arith, inl, inr, true≢false}
use Rattle.std.specs.Prelude.{is_some, if◌then◌else◌}
use Rattle.std.specs.List.{AllByRecursion}
use Rattle.std.specs.Str.{bytes_eq}
use Rattle.std.proofs.lemmas.Bool.{cases_Bool, cond-true, cond-false, and_parts, and_from, not-true}
use Rattle.std.proofs.lemmas.List.{length-map}
use Rattle.log_lines.specs.Names.{Name, place_from, place_of, are_distinct}
use Rattle.log_lines.specs.Spelling.{NamedValue, names_of}
use Rattle.run_model.specs.Cut.{IsWithin, lengths}
use Rattle.run_model.specs.Run as run
use Rattle.kept_runs.specs.Chosen.{chosen, new_number}
use Rattle.kept_runs.specs.Kept.{Names, is_kept_variable, is_on_some, kept_count}
use Rattle.kept_runs.proofs.Chosen.{chosen_at, chosen_first, chosen_later, chosen_mapped, later}
use Rattle.kept_runs.proofs.Folding.{length-counted}
use Rattle.event_log.specs.declared.log.Assign.{Assign}
use Rattle.event_log.specs.declared.log.Binding.{Binding}
use Rattle.event_log.specs.declared.log.Event.{Event}
use Rattle.event_log.specs.declared.log.Header.{Header}
use Rattle.event_log.specs.declared.log.Kind.{Kind}
use Rattle.event_log.specs.declared.log.Kind.TheVariants as kind
use Rattle.event_log.specs.declared.log.Log.{Log}
use Rattle.event_log.specs.LogText.{BindingFits, BindingsFit, HeaderFits, KindFits, KindWithin, name_at, named, event_count}
use Rattle.event_log.specs.Numbers.{binding_names, variables_at}
use Rattle.event_log.specs.States.{event_of, trace_of_log, with_batch}
use Rattle.vector_clock.specs.Events as clocks
use Rattle.vector_clock.specs.Events.{Events, clocks_of, no_events}
use Rattle.vector_clock.proofs.Growth.{lengths_of}
use Rattle.clock_laws.specs.Joined.{as_one}
use Rattle.kept_log.specs.Kept.{is_kept_here, kept_assigns, kept_here, kept_events, kept_header, kept_vars, kept_log}
use Rattle.kept_log.specs.Keeping.{CanBeKept}
use Rattle.kept_log.proofs.Again.{again}
use Rattle.kept_log.proofs.Fits.{all_joined}
use Rattle.kept_log.proofs.Folded.{kept_one, dropped_one, length-kept_vars}
use Rattle.kept_log.proofs.Spelled.{assigns_fit}
use Rattle.log_rules.specs.Judgement.{Prefix}
use Rattle.log_rules.specs.WholeLogs.{all_of}
use Rattle.log_writing.specs.Spelling.{CanBeSpelled}
use Rattle.one_log_laws.proofs.Few.{IsSmall}
use Rattle.one_log_laws.proofs.Fine.{IsPlaced, IsFine, all_so, batches_sum, count_sum, named_there, no_sum, within_all}
use Rattle.one_log_laws.proofs.Lines.{batches_parts}

-- ---- some of the names, in their order

abbrev AreOf : List Name → List Name → Type 0
AreOf xs [] = xs ≡ []
AreOf xs (y ∷ ys) = AreOf xs ys ⊎ ((rest : List Name) × (xs ≡ y ∷ rest) × AreOf rest ys)

few_of : (xs ys : List Name) → AreOf xs ys → length xs ≤ length ys
few_of xs [] are = omega (arith, ap length are)
few_of xs (y ∷ ys) (inl are) = omega (arith, few_of xs ys are)
few_of xs (y ∷ ys) (inr some) = omega (arith, ap length some.1, few_of some.0 ys some.2)

-- a name that isn't there
abbrev Lacks : ℕ → List Name → Name → Type 0
Lacks start names name = is_some (place_from start names name) ≡ false

lacks_parts : (b : Bool) (start : ℕ) (o : Option ℕ) → is_some (if b then Some start else o) ≡ false → (b ≡ false) × (is_some o ≡ false)
lacks_parts true start o none = absurd (true≢false none)
lacks_parts false start o none = (refl, none)

lacks_both : (b : Bool) (start : ℕ) (o : Option ℕ) → b ≡ false → is_some o ≡ false → is_some (if b then Some start else o) ≡ false
lacks_both true start o other none = absurd (true≢false other)
lacks_both false start o other none = none

lacks_of : (xs ys : List Name) → AreOf xs ys → (m n : ℕ) (name : Name) → Lacks m ys name → Lacks n xs name
lacks_of xs [] are m n name none = ap (λ (zs : List Name). is_some (place_from n zs name)) are
lacks_of xs (y ∷ ys) (inl are) m n name none =
    lacks_of xs ys are (m + 1) n name (lacks_parts (bytes_eq y name) m (place_from (m + 1) ys name) none).1
lacks_of xs (y ∷ ys) (inr some) m n name none =
    let parts = lacks_parts (bytes_eq y name) m (place_from (m + 1) ys name) none in
    ap (λ (zs : List Name). is_some (place_from n zs name)) some.1
    ∙ lacks_both (bytes_eq y name) n (place_from (n + 1) some.0 name) parts.0 (lacks_of some.0 ys some.2 (m + 1) (n + 1) name parts.1)

distinct_of : (xs ys : List Name) → AreOf xs ys → are_distinct ys ≡ true → are_distinct xs ≡ true
distinct_of xs [] are distinct = ap are_distinct are
distinct_of xs (y ∷ ys) (inl are) distinct = distinct_of xs ys are (and_parts (not (is_some (place_of ys y))) (are_distinct ys) distinct).1
distinct_of xs (y ∷ ys) (inr some) distinct =
    let parts = and_parts (not (is_some (place_of ys y))) (are_distinct ys) distinct in
    let absent : is_some (place_of ys y) ≡ false = not-true (is_some (place_of ys y)) parts.0 in
    ap are_distinct some.1
    ∙ and_from (not (is_some (place_of some.0 y))) (are_distinct some.0) (ap not (lacks_of some.0 ys some.2 0 0 y absent)) (distinct_of some.0 ys some.2 parts.1)

chosen_of : (t : ℕ → Bool) (ns : List Name) → AreOf (chosen t ns) ns
unfolding chosen
chosen_of t [] = refl
chosen_of t (n ∷ ns) = elim (cases_Bool (t 0)) [
  | inl on ↦ inr (chosen (later t) ns, chosen_first t n ns on, chosen_of (later t) ns)
  | inr off ↦ inl (subst (λ (xs : List Name). AreOf xs ns) (sym (chosen_later t n ns off)) (chosen_of (later t) ns))
]

-- ---- variables

all_chosen : {A : Type 0} (P : A → Type 0) (t : ℕ → Bool) (xs : List A) → AllByRecursion P xs → AllByRecursion P (chosen t xs)
unfolding chosen
all_chosen P t [] each = tt
all_chosen P t (x ∷ xs) each = elim (cases_Bool (t 0)) [
  | inl on ↦ subst (AllByRecursion P) (sym (chosen_first t x xs on)) (each.0, all_chosen P (later t) xs each.1)
  | inr off ↦ subst (AllByRecursion P) (sym (chosen_later t x xs off)) (all_chosen P (later t) xs each.1)
]

names_chosen : (t : ℕ → Bool) (bs : List Binding) → binding_names (chosen t bs) ≡ chosen t (binding_names bs)
names_chosen t bs = chosen_mapped (λ (b : Binding). b.name) t bs

bindings_fit : (t : ℕ → Bool) (bs : List Binding) → BindingsFit bs → BindingsFit (chosen t bs)
bindings_fit t bs fits = record {
  few = omega (
    arith,
    fits.few,
    length-map (chosen t bs) (λ (b : Binding). b.name),
    length-map bs (λ (b : Binding). b.name),
    ap length (names_chosen t bs),
    few_of (chosen t (binding_names bs)) (binding_names bs) (chosen_of t (binding_names bs)),
  );
  each = all_chosen BindingFits t bs fits.each;
  distinct = ap are_distinct (names_chosen t bs) ∙ distinct_of (chosen t (binding_names bs)) (binding_names bs) (chosen_of t (binding_names bs)) fits.distinct;
}

module _ (trace : run.Trace) (names : Names) where
  vars_fit : (i : ℕ) (vars : List (List Binding)) → AllByRecursion BindingsFit vars → AllByRecursion BindingsFit (kept_vars trace names i vars)
  unfolding kept_vars
  vars_fit i [] each = tt
  vars_fit i (bs ∷ vars) each = (bindings_fit (is_kept_variable trace names i) bs each.0, vars_fit (suc i) vars each.1)

  header_fits : (h : Header) → HeaderFits h → HeaderFits (kept_header trace names h)
  header_fits h fits = record {
    version = fits.version;
    procs = fits.procs;
    all = length-kept_vars trace names 0 h.vars ∙ fits.all;
    vars = vars_fit 0 h.vars fits.vars;
  }

  -- the variables that are kept of a process
  vars_from : (i : ℕ) (vars : List (List Binding)) (p : ℕ) → get_or (kept_vars trace names i vars) p [] ≡ chosen (is_kept_variable trace names (i + p)) (get_or vars p [])
  unfolding kept_vars chosen
  vars_from i [] p = refl
  vars_from i (v ∷ vars) zero = ap (λ (q : ℕ). chosen (is_kept_variable trace names q) v) (omega arith)
  vars_from i (v ∷ vars) (suc p) = vars_from (suc i) vars p ∙ ap (λ (q : ℕ). chosen (is_kept_variable trace names q) (get_or vars p [])) (omega arith)

  vars_at : (vars : List (List Binding)) (p : ℕ) → variables_at (kept_vars trace names 0 vars) p ≡ chosen (is_kept_variable trace names p) (variables_at vars p)
  vars_at vars p = vars_from 0 vars p ∙ ap (λ (q : ℕ). chosen (is_kept_variable trace names q) (get_or vars p [])) (omega arith)

  -- ---- assignments

  abbrev assigned : List Binding → List Assign → List Name
  assigned bs xs = names_of (map (named bs) xs)

  name_stays : (p : ℕ) (bs : List Binding) (v : ℕ) → is_kept_variable trace names p v ≡ true
      → name_at (binding_names (chosen (is_kept_variable trace names p) bs)) (new_number (is_kept_variable trace names p) v) ≡ name_at (binding_names bs) v
  name_stays p bs v on =
      let t = is_kept_variable trace names p in
      ap (λ (ns : List Name). name_at ns (new_number t v)) (names_chosen t bs) ∙ chosen_at t (binding_names bs) v [] on

  assigns_of : (p : ℕ) (bs : List Binding) (xs : List Assign) → AreOf (assigned (chosen (is_kept_variable trace names p) bs) (kept_assigns trace names p xs)) (assigned bs xs)
  assigns_of p bs [] = refl
  assigns_of p bs (a ∷ xs) =
      let t = is_kept_variable trace names p in
      let rest = filter (λ (b : Assign). t b.variable) xs in
      let renumbered : Assign → Assign = λ (b : Assign). record b { variable = new_number t b.variable } in
      let kept : List Assign → List Name = λ (ys : List Assign). names_of (map (named (chosen t bs)) (map renumbered ys)) in
      elim (cases_Bool (t a.variable)) [
        | inl on ↦ inr (
          kept rest,
          ap kept (cond-true (t a.variable) (a ∷ rest) rest on) ∙ ap (λ (n : Name). n ∷ kept rest) (name_stays p bs a.variable on),
          assigns_of p bs xs,
        )
        | inr off ↦ inl (subst (λ (ns : List Name). AreOf ns (assigned bs xs)) (sym (ap kept (cond-false (t a.variable) (a ∷ rest) rest off))) (assigns_of p bs xs))
      ]

  few_assigns : (p : ℕ) (bs : List Binding) (xs : List Assign) → length (kept_assigns trace names p xs) ≤ length xs
  few_assigns p bs xs =
      let t = is_kept_variable trace names p in
      let kept = kept_assigns trace names p xs in
      omega (
        arith,
        few_of (assigned (chosen t bs) kept) (assigned bs xs) (assigns_of p bs xs),
        length-map (map (named (chosen t bs)) kept) (λ (v : NamedValue). v.name),
        length-map kept (named (chosen t bs)),
        length-map (map (named bs) xs) (λ (v : NamedValue). v.name),
        length-map xs (named bs),
      )

kind_stays : (procs p : ℕ) (b : Bool) (k : Kind) → KindFits procs p k → KindFits procs p (if b then k else kind.Internal)
kind_stays procs p true k fits = fits
kind_stays procs p false k fits = tt

-- ---- events

within : (procs process : ℕ) (k : Kind) → KindFits procs process k → KindWithin procs k
within procs process kind.Internal fits = tt
within procs process (kind.Send to id) fits = fits.0
within procs process (kind.Receive sender id) fits = fits.0

-- the log that is folded
abbrev pub as_log : Prefix → Log
as_log log = record { header = log.header; batches = log.batches }

module _ (log : Prefix) (fine : IsFine log) (small : IsSmall log) where
  one_spelled : (e : Event) → IsPlaced log.header (event_count log.batches) e → CanBeSpelled log.header e
  one_spelled e p = record { process = p.process; peer = within (length log.header.procs) e.process e.kind p.kind; assigns = p.assigns }

  one_written : (e : Event) → IsPlaced log.header (event_count log.batches) e → clocks.EventFits (length log.header.procs) e
  one_written e p = record {
    clock = record { process = p.process; width = p.width };
    peer = within (length log.header.procs) e.process e.kind p.kind;
  }

  each_so : (P : Event → Type 0) → ((e : Event) → IsPlaced log.header (event_count log.batches) e → P e) → AllByRecursion (AllByRecursion P) log.batches
  each_so P f =
      all_so (AllByRecursion (IsPlaced log.header (event_count log.batches))) (AllByRecursion P)
      (λ b. all_so (IsPlaced log.header (event_count log.batches)) P f b) log.batches fine.each

  pub can_be_kept : CanBeKept (as_log log)
  can_be_kept = record {
    text = record { version = fine.header.version; vars = fine.header.all; events = each_so (CanBeSpelled log.header) one_spelled };
    clocks = each_so (clocks.EventFits (length log.header.procs)) one_written;
    faultless = fine.faultless;
    events = small.few;
  }

  module _ (names : Names) where
    abbrev trace : run.Trace
    trace = trace_of_log (as_log log)

    abbrev header : Header
    header = kept_header (trace_of_log (as_log log)) names log.header

    abbrev all : List Event
    all = as_one log.batches

    abbrev kept : List Event
    kept = kept_events (trace_of_log (as_log log)) names (as_one log.batches)

    can : CanBeKept (kept_log (as_log log) names)
    can = again (as_log log) names can_be_kept

    abbrev Small : Event → Type 0
    Small e = AllByRecursion (λ n. n ≤ event_count (kept ∷ [])) e.clock

    abbrev Placed : Event → Type 0
    Placed e = IsPlaced header (event_count (kept ∷ [])) e

    place_kept : (e : Event) → IsPlaced log.header (event_count log.batches) e → Small (kept_here trace names e) → Placed (kept_here trace names e)
    place_kept e p clock = record {
      process = p.process;
      width = length-counted (kept_count trace names) 0 e.clock ∙ p.width;
      clock = clock;
      kind = kind_stays (length log.header.procs) e.process (is_on_some trace names e.process (event_of e)) e.kind p.kind;
      few = omega (arith, p.few, few_assigns trace names e.process (variables_at log.header.vars e.process) e.assigns);
      assigns = assigns_fit (as_log log) names e p.assigns;
      distinct = ap (λ (bs : List Binding). are_distinct (names_of (map (named bs) (kept_assigns trace names e.process e.assigns)))) (vars_at trace names log.header.vars e.process)
          ∙ distinct_of _ _ (assigns_of trace names e.process (variables_at log.header.vars e.process) e.assigns) p.distinct;
    }

    place_all : (es : List Event) → AllByRecursion (IsPlaced log.header (event_count log.batches)) es → AllByRecursion Small (kept_events trace names es) → AllByRecursion Placed (kept_events trace names es)
    place_all [] each clock = tt
    place_all (e ∷ es) each clock = elim (cases_Bool (is_kept_here trace names e)) [
      | inl on ↦
          let one = kept_one trace names e es on in
          let both : AllByRecursion Small (kept_here trace names e ∷ kept_events trace names es) = subst (AllByRecursion Small) one clock in
          subst (AllByRecursion Placed) (sym one) (place_kept e each.0 both.0, place_all es each.1 both.1)
      | inr off ↦
          let none = dropped_one trace names e es off in
          subst (AllByRecursion Placed) (sym none) (place_all es each.1 (subst (AllByRecursion Small) none clock))
    ]

    -- all events that are kept
    abbrev there : Events
    there = with_batch (no_events (length log.header.procs)) kept

    few_there : sum (lengths (clocks_of there)) ≤ event_count (kept ∷ [])
    few_there = omega (arith, ap sum (lengths_of there), batches_sum (no_events (length log.header.procs)) (kept ∷ []), no_sum (length log.header.procs))

    each_small : AllByRecursion Small kept
    each_small =
        all_so (λ (e : Event). IsWithin e.clock (lengths (clocks_of there))) Small
        (λ e within. within_all e.clock (event_count (kept ∷ [])) (λ j. omega (arith, within j, count_sum (lengths (clocks_of there)) j, few_there)))
        kept (named_there (no_events (length log.header.procs)) there kept (batches_parts (no_events (length log.header.procs)) kept [] can.faultless).0)

    pub kept_fine : IsFine (all_of (kept_log (as_log log) names))
    kept_fine = record {
      header = header_fits trace names log.header fine.header;
      each = (place_all all (all_joined (IsPlaced log.header (event_count log.batches)) log.batches fine.each) each_small, tt);
      faultless = can.faultless;
    }

    pub kept_small : IsSmall (all_of (kept_log (as_log log) names))
    kept_small = record { some = omega arith; few = can.events }
