-- An event that a line names is spelled by that line, and the line of an event names it.
use Rattle.std.proofs.Common.{◌≡◌, ℕ, zero, suc, ◌<◌, ◌≤◌, true, false, Ok, List, [], ◌∷◌, length, refl, sym, ap, subst, ◌∙◌, arith, inl, inr}
use Rattle.std.specs.Prelude.{◌==◌, nat_lt, not, map}
use Rattle.std.specs.List.{AllByRecursion}
use Rattle.std.proofs.Math.Bool.{or-true, or-false}
use Rattle.std.proofs.lemmas.Bool.{eqb-true, eq-eqb, ne_eqb, not-true, ltb-true, lt-ltb}
use Rattle.std.proofs.lemmas.List.{length-map}
use Rattle.pota_base.specs.Limits.{most_events, most_variables}
use Rattle.log_lines.specs.Names.{Name, is_name, place_of, are_distinct}
use Rattle.log_lines.specs.Spelling.{NamedValue, Action, ActionFits, EventLine, EventLineFits, names_of}
use Rattle.event_log.specs.declared.item.LogCode.TheVariants as code
use Rattle.event_log.specs.declared.log.Binding.{Binding}
use Rattle.event_log.specs.declared.log.Header.{Header}
use Rattle.event_log.specs.declared.log.Kind.{Kind}
use Rattle.event_log.specs.declared.log.Kind.TheVariants as kind
use Rattle.event_log.specs.declared.log.Event.{Event}
use Rattle.event_log.specs.Numbers.{known, binding_names, variables_at, kind_in, is_to_itself, may_stand, has_width, assigns_in, event_named}
use Rattle.event_log.specs.LogText.{name_at, named, action_of, line_of, BindingsFit, HeaderFits, KindFits, ClockStands, AssignFits, EventFits}
use Rattle.event_log.proofs.NameLaws.{bind_ok, known_ok, guarded_ok, same_Ok, place_some, place_again, kind_takes, kind_again, assigns_take, assigns_again, values_from_assigns}

-- the same variables for each process
abbrev pub SameVariables : List (List Binding) → List (List Binding) → Type 0
SameVariables xs ys = (p : ℕ) → variables_at xs p ≡ variables_at ys p

-- a clock that may stand and has its width, or that is left out
clock_stands : (version procs : ℕ) (clock : List ℕ) → may_stand version clock ≡ true → has_width procs clock ≡ true → ClockStands version procs clock
clock_stands version procs [] stands width = inr (eqb-true version 2 stands, refl)
clock_stands version procs (n ∷ ns) stands width =
    let some : (length (n ∷ ns) == 0) ≡ false = ne_eqb (length (n ∷ ns)) 0 (λ e. absurd (omega (arith, e))) in
    inl (eqb-true (length (n ∷ ns)) procs (sym (or-false (length (n ∷ ns) == procs)) ∙ rw some at width))

stands_again : (version procs : ℕ) (clock : List ℕ) → 0 < procs → ClockStands version procs clock → (may_stand version clock ≡ true) × (has_width procs clock ≡ true)
stands_again version procs [] some (inl width) = absurd (omega (arith, width, some))
stands_again version procs [] some (inr out) = (eq-eqb version 2 out.0, or-true (0 == procs))
stands_again version procs (n ∷ ns) some (inl width) =
    let given : (length (n ∷ ns) == 0) ≡ false = ne_eqb (length (n ∷ ns)) 0 (λ e. absurd (omega (arith, e))) in
    (rw given refl, rw (eq-eqb (length (n ∷ ns)) procs width) refl)
stands_again version procs (n ∷ ns) some (inr out) = absurd (omega (arith, ap length out.1))

-- a clock has no more counts than there are processes
pub clock_few : (h : Header) (e : Event) → EventFits h e → length e.clock ≤ length h.procs
clock_few h e fits = elim fits.width [
  | inl width ↦ omega (arith, width)
  | inr out ↦ omega (arith, ap length out.1)
]

pub record EventNamed (h : Header) (line count : ℕ) (d : EventLine) (e : Event) : Type 0 where
  pub line_is : line_of h e ≡ d
  pub fits : EventFits h e
  pub at : e.line ≡ line
  pub few : count < most_events

line_made : (actor : Name) (clock : List ℕ) (action : Action) (assigns : List NamedValue) (d : EventLine) → actor ≡ d.actor → clock ≡ d.clock → action ≡ d.action → assigns ≡ d.assigns
    → record { actor = actor; clock = clock; action = action; assigns = assigns } ≡ d
line_made actor clock action assigns d a b c e = rw (a, b, c, e) refl

pub event_takes : (h : Header) (vars : List (List Binding)) (line count : ℕ) (d : EventLine) (e : Event) → SameVariables h.vars vars → EventLineFits d → event_named h.version h.procs vars line count d ≡ Ok e → EventNamed h line count d e
unfolding event_named
event_takes h vars line count d e same fits judged =
    let m = guarded_ok code.BadLine (may_stand h.version d.clock) _ e judged in
    let a = bind_ok (known code.UnknownProcess (place_of h.procs d.actor)) _ e m.1 in
    let k = bind_ok (kind_in h.procs d.action) _ e a.2 in
    let w = guarded_ok code.ClockWidth (has_width (length h.procs) d.clock) _ e k.2 in
    let s = guarded_ok code.SelfMessage (not (is_to_itself a.0 k.0)) _ e w.1 in
    let g = bind_ok (assigns_in (binding_names (variables_at vars a.0)) [] d.assigns) _ e s.1 in
    let t = guarded_ok code.TooManyEvents (nat_lt count most_events) _ e g.2 in
    let actor = place_some h.procs d.actor a.0 (known_ok _ _ _ a.1) in
    let kinds = kind_takes h.procs a.0 d.action k.0 fits.action k.1 (not-true _ s.0) in
    let sets = assigns_take (variables_at vars a.0) [] d.assigns g.0 fits.assigns.each g.1 in
    let sets_are : map (named (variables_at h.vars a.0)) g.0 ≡ d.assigns = rw (same a.0, sets.all_are) sets.named_are in
    let sets_fit : AllByRecursion (AssignFits (variables_at h.vars a.0)) g.0 = rw (same a.0, sets.all_are) sets.fits in
    let sets_few : length g.0 ≤ most_variables = omega (arith, ap length sets_are, length-map g.0 (named (variables_at h.vars a.0)), fits.assigns.few) in
    let sets_distinct : are_distinct (names_of (map (named (variables_at h.vars a.0)) g.0)) ≡ true = rw sets_are fits.assigns.distinct in
    subst (EventNamed h line count d) (same_Ok _ _ t.1) (record {
      line_is = line_made (name_at h.procs a.0) d.clock (action_of h.procs k.0) (map (named (variables_at h.vars a.0)) g.0) d actor.1 refl kinds.action_is sets_are;
      fits = record { process = actor.0; width = clock_stands h.version (length h.procs) d.clock m.0 w.0; clock = fits.clock; kind = kinds.fits; few = sets_few; assigns = sets_fit; distinct = sets_distinct };
      at = refl;
      few = ltb-true _ _ t.0;
    })

-- ---- what has a text, at a place

vars_fit_at : (vars : List (List Binding)) (p : ℕ) → AllByRecursion BindingsFit vars → BindingsFit (variables_at vars p)
vars_fit_at [] p fits = record { few = omega arith; each = tt; distinct = refl }
vars_fit_at (v ∷ vs) zero fits = fits.0
vars_fit_at (v ∷ vs) (suc p) fits = vars_fit_at vs p fits.1

pub name_fits_at : (names : List Name) (i : ℕ) → AllByRecursion (λ n. is_name n ≡ true) names → i < length names → is_name (name_at names i) ≡ true
name_fits_at [] i fits lt = absurd (omega arith)
name_fits_at (n ∷ ns) zero fits lt = fits.0
name_fits_at (n ∷ ns) (suc i) fits lt = name_fits_at ns i fits.1 (omega arith)

pub event_again : (h : Header) (vars : List (List Binding)) (count : ℕ) (e : Event) → HeaderFits h → SameVariables h.vars vars → EventFits h e → count < most_events → event_named h.version h.procs vars e.line count (line_of h e) ≡ Ok e
unfolding event_named
event_again h vars count e header same fits few =
    let kinds = kind_again h.procs e.process e.kind header.procs.distinct fits.kind in
    let distinct = (vars_fit_at h.vars e.process header.vars).distinct in
    let stands = stands_again h.version (length h.procs) e.clock header.procs.some fits.width in
    rw (stands.0, place_again h.procs e.process header.procs.distinct fits.process, kinds.0, stands.1, kinds.1, ← same e.process, assigns_again (variables_at h.vars e.process) [] e.assigns distinct fits.assigns, lt-ltb _ _ few) refl

action_fits : (procs : List Name) (process : ℕ) (k : Kind) → AllByRecursion (λ n. is_name n ≡ true) procs → KindFits (length procs) process k → ActionFits (action_of procs k)
action_fits procs process kind.Internal names fits = tt
action_fits procs process (kind.Send to id) names fits = (name_fits_at procs to names fits.0, fits.2)
action_fits procs process (kind.Receive sender id) names fits = (name_fits_at procs sender names fits.0, fits.2)

pub line_fits : (h : Header) (e : Event) → HeaderFits h → EventFits h e → EventLineFits (line_of h e)
line_fits h e header fits = record {
  actor = name_fits_at h.procs e.process header.procs.each fits.process;
  clock = fits.clock;
  action = action_fits h.procs e.process e.kind header.procs.each fits.kind;
  assigns = record {
    few = omega (arith, fits.few, length-map e.assigns (named (variables_at h.vars e.process)));
    each = values_from_assigns (variables_at h.vars e.process) e.assigns (vars_fit_at h.vars e.process header.vars).each fits.assigns;
    distinct = fits.distinct;
  };
}
