-- What the cases of the operators answer.
use Rattle.std.proofs.Common.{◌≡◌, ℕ, ◌+◌, ◌<◌, ◌≤◌, Bool, true, false, List, [], ◌∷◌, length, sum, replicate, Result, Ok, Err, Option, Some, None, refl, sym, ap, subst, ◌∙◌, arith, inl, inr}
use Rattle.std.specs.Prelude.{◌↔◌, IsTrue, IfOk}
use Rattle.std.specs.Str.{bytes_eq}
use Rattle.std.proofs.lemmas.Bool.{cases_Bool, true≢false}
use Rattle.std.proofs.lemmas.Slice.Eq.{bytes_eq-Decides}
use Rattle.run_model.specs.Cut.{Cut, Clocks, count, IsWithin, with_next, lengths, initial}
use Rattle.run_model.specs.Run.{Run}
use Rattle.run_model.specs.Consistent.{clock, IsOrder, IsConsistent}
use Rattle.run_model.specs.Sublattice.{IsSublattice}
use Rattle.run_model.specs.Slice.{Slice, Cuts, StandsFor}
use Rattle.run_model.specs.Formula.{Formula}
use Rattle.run_model.specs.Meaning.{Family}
use Rattle.run_model.specs.Witness as model
use Rattle.run_model.specs.Witness.{WitnessOperator, ForAg, ExistsNext, IsPartOf, HasFirst, Place, IsPlace, row_at, Departs, FirstSteps, IsCanonical, IsOfKind}
use Rattle.run_model.proofs.Counts.{length-lengths, length-initial, length-with_next, count-initial, initial_within, with_next_same, with_next_least}
use Rattle.meaning_laws.proofs.WitnessLemmas.{canonical_is_of_kind}
use Rattle.pota_base.specs.declared.shape.EventId.{EventId}
use Rattle.pota_base.specs.Shape.{HasEvent}
use Rattle.run_model.proofs.Orders.{has_process}
use Rattle.pota_base.specs.Limits.{most_events, most_processes}
use Rattle.event_log.proofs.Keeping.{item_le_sum}
use Rattle.slice_graph.specs.Views.{SliceView, slice_of, IsCut}
use Rattle.witness_kinds.specs.declared.Path.{Path}
use Rattle.witness_kinds.specs.declared.Witness.{Witness}
use Rattle.witness.specs.Views.{place_of, places_of, path_of, witness_of}
use Rattle.witness.specs.inside.Twins.{IsRunOrder, IsOperand}

-- ---- the initial cut

pub initial_is : (o : Clocks) (n : ℕ) (start : Cut) → n ≡ length (lengths o) → start ≡ replicate n 0 → start ≡ initial o
unfolding initial
initial_is o n start size is = is ∙ ap (λ (k : ℕ). replicate k 0) (size ∙ length-lengths o)

pub initial_fits : (o : Clocks) (v : SliceView) (start : Cut) → IsOperand o v → start ≡ initial o → IsCut v.lens start
initial_fits o v start operand is = subst (IsCut v.lens) (sym is) (record { size = length-initial o ∙ sym (length-lengths o) ∙ sym (ap length operand.fits.shape); within = initial_within o v.lens })

pub initial_few : (o : Clocks) (start : Cut) → IsRunOrder o → start ≡ initial o → length start ≤ most_processes
initial_few o start run is = omega (arith, ap length is, length-initial o, length-lengths o, run.shape.few)

pub consistent_few : (o : Clocks) (c : Cut) → IsRunOrder o → IsConsistent o c → length c ≤ most_processes
consistent_few o c run k = omega (arith, k.shaped, length-lengths o, run.shape.few)

pub consistent_small : (o : Clocks) (c : Cut) → IsRunOrder o → IsConsistent o c → (i : ℕ) → count c i ≤ most_events
consistent_small o c run k i = omega (arith, k.within i, item_le_sum (lengths o) i, run.shape.events)

-- ---- walks

-- before the first step
pub no_steps : (A : Cut → Type 0) (start : Cut) (steps : List EventId) → steps ≡ [] → A start → FirstSteps A start (places_of steps) start
no_steps A start steps none member = subst (λ (es : List EventId). FirstSteps A start (places_of es) start) (sym none) (member, refl)

-- ---- tests

pub has_not : (X : Type 0) (b : Bool) → (IsTrue b ↔ X) → b ≡ false → X → ⊥
has_not X b same none x = true≢false (sym (same.1 x) ∙ none)

pub is_or_not : (k : Option Cut) (c : Cut) → ((k ≡ Some c → ⊥) → ⊥) → k ≡ Some c
is_or_not None c h = absurd (h (λ e. not_some c e))
  where
    not_some : (c : Cut) → None ≡ Some c → ⊥
    not_some c e = cc
is_or_not (Some d) c h = elim (cases_Bool (bytes_eq d c)) [
  | inl same ↦ ap Some ((bytes_eq-Decides d c).0 same)
  | inr apart ↦ absurd (h (λ e. true≢false (sym ((bytes_eq-Decides d c).1 (some_one d c e)) ∙ apart)))
]
  where
    some_one : (x y : Cut) → Some x ≡ Some y → x ≡ y
    some_one x y e = cc

pub rows_are_pasts : (o : Clocks) (s : Slice) → ((e : Place) → IsPlace o e → Departs o s e → ⊥) → (e : Place) → IsPlace o e → row_at s e ≡ Some (clock o e.process e.position)
rows_are_pasts o s none e there = is_or_not (row_at s e) (clock o e.process e.position) (none e there)

pub refuted_start : (o : Clocks) (s : Slice) (start : Cut) (steps : List EventId) → start ≡ initial o → steps ≡ [] → (Cuts o s start → ⊥) → IsCanonical o s ForAg (model.Against (record { goal = start; steps = places_of steps }))
refuted_start o s start steps start_is steps_is none =
    let bare : IsCanonical o s ForAg (model.Against (record { goal = initial o; steps = [] })) = model.IsCanonical.refuted_at_start (λ h. none (subst (Cuts o s) (sym start_is) h)) in
    subst (λ (c : Cut). IsCanonical o s ForAg (model.Against (record { goal = c; steps = places_of steps }))) (sym start_is)
    (subst (λ (es : List EventId). IsCanonical o s ForAg (model.Against (record { goal = initial o; steps = places_of es }))) (sym steps_is) bare)

-- ---- the first event of a process

pub first_is_event : (o : Clocks) (s : Slice) (i : ℕ) → HasFirst o s i → 0 < count (lengths o) i
first_is_event o s i h = omega (arith, h.1.consistent.within i, with_next_same (initial o) i (omega (arith, h.0, length-initial o)))

pub first_fits : (o : Clocks) (v : SliceView) (i : ℕ) → IsOperand o v → i < length o → 0 < count (lengths o) i → IsCut v.lens (with_next (initial o) i)
first_fits o v i operand there event = record {
  size = length-with_next (initial o) i ∙ length-initial o ∙ sym (length-lengths o) ∙ sym (ap length operand.fits.shape);
  within = subst (IsWithin (with_next (initial o) i)) (sym operand.fits.shape)
      (with_next_least (initial o) (lengths o) i (omega (arith, there, length-initial o)) (initial_within o (lengths o)) (omega (arith, event, count-initial o i)));
}

pub first_step : (o : Clocks) (s : Slice) (i : ℕ) (start goal : Cut) (event : EventId) (steps : List EventId) → i < length o → start ≡ initial o → goal ≡ with_next (initial o) i → Cuts o s goal
    → event ≡ record { process = i; position = count start i + 1 } → steps ≡ event ∷ [] → IsCanonical o s (ExistsNext i) (model.Reach (record { goal = goal; steps = places_of steps }))
first_step o s i start goal event steps there start_is goal_is member event_is steps_are =
    let position : count start i + 1 ≡ 1 = omega (arith, ap (λ (d : Cut). count d i) start_is, count-initial o i) in
    let first : event ≡ record { process = i; position = 1 } = event_is ∙ ap (λ (n : ℕ). record { process = i; position = n }) position in
    let all : steps ≡ record { process = i; position = 1 } ∷ [] = steps_are ∙ ap (λ (e : EventId). e ∷ []) first in
    subst (λ (c : Cut). IsCanonical o s (ExistsNext i) (model.Reach (record { goal = c; steps = places_of steps }))) (sym goal_is)
    (subst (λ (es : List EventId). IsCanonical o s (ExistsNext i) (model.Reach (record { goal = with_next (initial o) i; steps = places_of es }))) (sym all)
    (model.IsCanonical.reaches_next (there, subst (Cuts o s) goal_is member)))

-- ---- the kind

pub kind_of : {E : Type 0} (o : Clocks) (s : Slice) (op : WitnessOperator) (result : Result Witness E) → IsOrder o → IfOk result (λ w. IsCanonical o s op (witness_of w))
    → (r : Run) → o ≡ r.clocks → (f : Formula) → IsSublattice r.clocks (Family r f) → StandsFor r.clocks s (Family r f)
    → (part : Formula) → IsPartOf r op f part → IfOk result (λ w. IsOfKind r part (witness_of w))
kind_of o s op (Err e) order canonical r same f closed stands part is = tt
kind_of o s op (Ok w) order canonical r same f closed stands part is =
    canonical_is_of_kind r (subst IsOrder same order) f closed s stands op part is (witness_of w) (subst (λ (p : Clocks). IsCanonical p s op (witness_of w)) same canonical)

-- a place of the run is an event of it
pub place_event : (o : Clocks) (e : EventId) → IsPlace o (place_of e) → HasEvent (lengths o) e
place_event o e there = record { process = omega (arith, has_process (lengths o) e.process e.position there); first = there.0; last = there.1 }
