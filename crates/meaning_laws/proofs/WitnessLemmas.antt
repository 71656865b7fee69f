-- The canonical witness is of its kind.
use Rattle.std.proofs.Common.{◌≡◌, ℕ, ◌+◌, ◌<◌, ◌↔◌, List, [], ◌∷◌, length, Option, Some, None, sym, ap, ◌∙◌, subst, refl, inl, inr, arith}
use Rattle.run_model.specs.Cut.{Cut, Clocks, count, IsWithin, with_next, lengths, initial}
use Rattle.run_model.specs.Run.{Name, Run}
use Rattle.run_model.specs.Consistent.{clock, IsOrder, IsConsistent, IsPath}
use Rattle.run_model.specs.Sublattice.{AllIn, IsSublattice, Having}
use Rattle.run_model.specs.Slice.{Slice, HasWithin, IsLeastOf, Cuts, StandsFor, Fits}
use Rattle.run_model.specs.Formula.{Ef, Ag, Eg, Formula, Temporal, Next}
use Rattle.run_model.specs.Operators.{ExHolds}
use Rattle.run_model.specs.Meaning.{Sat, Family}
use Rattle.run_model.specs.Witness.{WitnessOperator, ForEf, ForAg, ForEg, ExistsNext, IsPartOf, HasFirst, first_event_of, Place, PathTo, Witness, StepsIn, IsOfKind, FirstSteps, FirstStepsTo, IsFirst, row_at, Departs, Shares, IsPlace, IsCanonical}
use Rattle.run_model.specs.Witness as W
use Rattle.run_model.proofs.Counts.{within_both, initial_within, length-initial, count-initial, total, total_next}
use Rattle.std.proofs.lemmas.Bool.{cases_order}
use Rattle.run_model.proofs.Orders.{event_of_run, has_past, past_consistent, past_has, initial_consistent, final_consistent}
use Rattle.run_model.proofs.Paths.{path_last, each_time_from_ends, next_time_from, next_time_lands}
use Rattle.run_model.proofs.SliceLemmas.{least_of_member, has_within_up, cuts_member, member_cuts, one_bottom, one_row}
use Rattle.meaning_laws.proofs.OperatorLemmas.{rows_both, pair_refutes}

pub first_steps_wider : (A B : Cut → Type 0) → ((c : Cut) → A c → B c) → (c : Cut) (es : List Place) (d : Cut) → FirstSteps A c es d → StepsIn B c es d
first_steps_wider A B h c [] d p = (h c p.0, p.1)
first_steps_wider A B h c (e ∷ es) d p = (h c p.0, p.1, p.2, first_steps_wider A B h (with_next c e.process) es d p.4)

-- the cuts that steps pass through behind the first
pub cuts_along : Cut → List Place → List Cut
cuts_along c [] = []
cuts_along c (e ∷ es) = with_next c e.process ∷ cuts_along (with_next c e.process) es

pub steps_are_path : (o : Clocks) (c : Cut) (es : List Place) (d : Cut) → StepsIn (IsConsistent o) c es d → IsPath o c (cuts_along c es) d
unfolding cuts_along
steps_are_path o c [] d p = p
steps_are_path o c (e ∷ es) d p = (p.0, (e.process, p.1, refl), steps_are_path o (with_next c e.process) es d p.3)

-- the past of an event whose row is not its past is no member
departs_false : (o : Clocks) → IsOrder o → (A : Cut → Type 0) → ((c : Cut) → A c → IsConsistent o c) → (s : Slice) → StandsFor o s A → (e : Place) → IsPlace o e → Departs o s e → A (clock o e.process e.position) → ⊥
departs_false o order A consistent s stands e there departs member =
    let i = e.process in
    let a = e.position in
    let r = least_of_member (Having A i a) (s.row i a) (clock o i a) (stands.rows i a there) (member, past_has o order i a there) in
    let up = has_past o order r.0 (consistent r.0 r.2.member.0) i a (there.0, r.2.member.1) in
    departs (r.1 ∙ ap Some (within_both r.0 (clock o i a) ((consistent r.0 r.2.member.0).shaped ∙ sym (order.shaped i a there)) r.3 up))

bottom_empty : (A : Cut → Type 0) (k : Option Cut) → IsLeastOf A k → k ≡ None → (c : Cut) → A c → ⊥
bottom_empty A k l e c h = subst (IsLeastOf A) e l c h

-- where each row is the past of its event, and the initial cut is there, each consistent cut is there
all_there : (o : Clocks) → IsOrder o → (s : Slice) → Cuts o s (initial o) → ((e : Place) → IsPlace o e → s.row e.process e.position ≡ Some (clock o e.process e.position)) → (d : Cut) → IsConsistent o d → Cuts o s d
all_there o order s start rows d k = record {
  consistent = k;
  from_bottom = has_within_up s.bottom (initial o) d (initial_within o d) start.from_bottom;
  rows = λ i a ev. subst (λ x. HasWithin x d) (sym (rows (record { process = i; position = a }) (event_of_run o d k i a ev))) (has_past o order d k i a ev);
}

-- the first event of the process leads to a cut of the slice exactly where EX is true at the start
first_next : (r : Run) (f : Formula) → IsSublattice r.clocks (Family r f) → (s : Slice) → StandsFor r.clocks s (Family r f) → (i : ℕ) → HasFirst r.clocks s i ↔ ExHolds r.clocks i (Sat r f) (initial r.clocks)
first_next r f closed s stands i = (
  λ h.
      let member = cuts_member r.clocks (Family r f) closed s stands (with_next (initial r.clocks) i) h.1 in
      next_time_from r.clocks i (Sat r f) (initial r.clocks) (omega (arith, h.0, length-initial r.clocks)) (initial_consistent r.clocks) member.0 member.1,
  λ w. (
    omega (arith, w.0, length-initial r.clocks),
    member_cuts r.clocks (Family r f) closed s stands (with_next (initial r.clocks) i) (next_time_lands r.clocks i (Sat r f) (initial r.clocks) w, w.2),
  ),
)

-- what the witness for an operator says of the part that the operator makes of f
abbrev KindOf : Run → Formula → WitnessOperator → Witness → Type 0
KindOf r f ForEf w = IsOfKind r (Temporal Ef f) w
KindOf r f ForAg w = IsOfKind r (Temporal Ag f) w
KindOf r f ForEg w = IsOfKind r (Temporal Eg f) w
KindOf r f (ExistsNext i) w = (process : Name) → r.process process ≡ i → IsOfKind r (Next process f) w

canonical_kind : (r : Run) → IsOrder r.clocks → (f : Formula) → IsSublattice r.clocks (Family r f) → (s : Slice) → StandsFor r.clocks s (Family r f) → (operator : WitnessOperator) (w : Witness) → IsCanonical r.clocks s operator w → KindOf r f operator w
canonical_kind r order f closed s stands _ _ (W.IsCanonical.reaches {path = p} bottom steps) = W.IsOfKind.reaches
    (first_steps_wider (λ c. IsConsistent r.clocks c × IsWithin c p.goal) (IsConsistent r.clocks) (λ c h. h.0) (initial r.clocks) p.steps p.goal steps)
    (subst (IsLeastOf (Family r f)) bottom stands.bottom)
canonical_kind r order f closed s stands _ _ (W.IsCanonical.never bottom) = W.IsOfKind.never
    (λ w. bottom_empty (Family r f) s.bottom stands.bottom bottom w.1 (path_last (IsConsistent r.clocks) (initial r.clocks) w.0 w.1 w.2, w.3))
canonical_kind r order f closed s stands _ _ (W.IsCanonical.refuted_at_start start) = W.IsOfKind.refutes
    (initial_consistent r.clocks, refl)
    (λ h. start (member_cuts r.clocks (Family r f) closed s stands (initial r.clocks) (initial_consistent r.clocks, h)))
canonical_kind r order f closed s stands _ _ (W.IsCanonical.refuted {path = p} {e = e} start first goal steps) = W.IsOfKind.refutes
    (first_steps_wider (λ c. IsConsistent r.clocks c × IsWithin c p.goal) (IsConsistent r.clocks) (λ c h. h.0) (initial r.clocks) p.steps p.goal steps)
    (λ h. departs_false r.clocks order (Family r f) closed.consistent s stands e first.there first.has (past_consistent r.clocks order e.process e.position first.there, subst (Sat r f) goal h))
canonical_kind r order f closed s stands _ _ (W.IsCanonical.each_time start rows) = W.IsOfKind.each_time
    (each_time_from_ends r.clocks (Sat r f) (initial r.clocks) (λ es d p. (cuts_member r.clocks (Family r f) closed s stands d (all_there r.clocks order s start rows d (path_last (IsConsistent r.clocks) (initial r.clocks) es d p))).1))
canonical_kind r order f closed s stands _ _ (W.IsCanonical.stays {path = p} goal steps) = W.IsOfKind.stays
    (first_steps_wider (Cuts r.clocks s) (Family r f) (cuts_member r.clocks (Family r f) closed s stands) (initial r.clocks) p.steps p.goal steps)
    goal
canonical_kind r order f closed s stands _ _ (W.IsCanonical.false_at_start start) = W.IsOfKind.false_at_start
    (λ h. start (member_cuts r.clocks (Family r f) closed s stands (initial r.clocks) (initial_consistent r.clocks, h)))
canonical_kind r order f closed s stands _ _ (W.IsCanonical.false_at_finish start finish) = W.IsOfKind.false_at_finish
    (λ h. finish (member_cuts r.clocks (Family r f) closed s stands (lengths r.clocks) (final_consistent r.clocks order, h)))
canonical_kind r order f closed s stands _ _ (W.IsCanonical.come_together {first = e} {other = g} start finish first other) = W.IsOfKind.come_together
    first.there other.there other.has.0
    (rows_both r.clocks (Family r f) s stands e.process e.position g.process g.position first.there other.there (sym other.has.1))
canonical_kind r order f closed s stands _ _ (W.IsCanonical.reaches_next {process = i} first) = λ process e.
    subst (λ j. IsOfKind r (Next process f) (W.Reach (first_event_of r.clocks j))) e
    (W.IsOfKind.reaches_next ((first_next r f closed s stands (r.process process)).0 (subst (HasFirst r.clocks s) (sym e) first)))
canonical_kind r order f closed s stands _ _ (W.IsCanonical.never_next {process = i} none) = λ process e.
    W.IsOfKind.never_next (λ w. none (subst (HasFirst r.clocks s) e ((first_next r f closed s stands (r.process process)).1 w)))

part_kind : (r : Run) (f : Formula) (operator : WitnessOperator) (part : Formula) → IsPartOf r operator f part → (w : Witness) → KindOf r f operator w → IsOfKind r part w
part_kind r f ForEf part e w k = subst (λ x. IsOfKind r x w) (sym e) k
part_kind r f ForAg part e w k = subst (λ x. IsOfKind r x w) (sym e) k
part_kind r f ForEg part e w k = subst (λ x. IsOfKind r x w) (sym e) k
part_kind r f (ExistsNext i) part h w k = subst (λ x. IsOfKind r x w) (sym h.2) (k h.0 h.1)

pub canonical_is_of_kind : (r : Run) → IsOrder r.clocks → (f : Formula) → IsSublattice r.clocks (Family r f) → (s : Slice) → StandsFor r.clocks s (Family r f) → (operator : WitnessOperator) (part : Formula) → IsPartOf r operator f part → (w : Witness) → IsCanonical r.clocks s operator w → IsOfKind r part w
canonical_is_of_kind r order f closed s stands operator part h w canonical = part_kind r f operator part h w (canonical_kind r order f closed s stands operator w canonical)

-- ---- the witness goes by the set, not by the slice that is at hand

pub first_same : (o : Clocks) (P Q : Place → Type 0) → ((e : Place) → IsPlace o e → P e ↔ Q e) → (e : Place) → IsFirst o P e → IsFirst o Q e
first_same o P Q same e k = record {
  there = k.there;
  has = (same e k.there).0 k.has;
  first = λ f there before h. k.first f there before ((same f there).1 h);
}

pub first_steps_same : (A B : Cut → Type 0) → ((c : Cut) → A c ↔ B c) → (c : Cut) (es : List Place) (d : Cut) → FirstSteps A c es d → FirstSteps B c es d
first_steps_same A B same c [] d p = ((same c).0 p.0, p.1)
first_steps_same A B same c (e ∷ es) d p = ((same c).0 p.0, p.1, p.2, λ j l h. p.3 j l ((same (with_next c j)).1 h), first_steps_same A B same (with_next c e.process) es d p.4)

shares_same : (s t : Slice) (e f : Place) → row_at s e ≡ row_at t e → row_at s f ≡ row_at t f → Shares s e f → Shares t e f
shares_same s t e f p q h = (h.0, sym q ∙ h.1 ∙ p)

pub canonical_same : (o : Clocks) (A : Cut → Type 0) → IsSublattice o A → (s t : Slice) → StandsFor o s A → StandsFor o t A → (operator : WitnessOperator) (w : Witness) → IsCanonical o s operator w → IsCanonical o t operator w
canonical_same o A closed s t k l operator w canonical = moved operator w canonical
  where
    cuts : (c : Cut) → Cuts o s c ↔ Cuts o t c
    cuts c = (λ h. member_cuts o A closed t l c (cuts_member o A closed s k c h), λ h. member_cuts o A closed s k c (cuts_member o A closed t l c h))

    bottom : s.bottom ≡ t.bottom
    bottom = one_bottom o A closed.consistent s t k l

    row : (e : Place) → IsPlace o e → row_at s e ≡ row_at t e
    row e there = one_row o A closed.consistent s t k l e.process e.position there

    departs : (e : Place) → IsPlace o e → Departs o s e ↔ Departs o t e
    departs e there = (λ h q. h (row e there ∙ q), λ h q. h (sym (row e there) ∙ q))

    shares : (e : Place) → IsPlace o e → (f : Place) → IsPlace o f → Shares s e f ↔ Shares t e f
    shares e there f place = (shares_same s t e f (row e there) (row f place), shares_same t s e f (sym (row e there)) (sym (row f place)))

    sharing : (e : Place) → IsPlace o e → ((f : Place) × IsPlace o f × Shares s e f) ↔ ((f : Place) × IsPlace o f × Shares t e f)
    sharing e there = (λ h. (h.0, h.1, (shares e there h.0 h.1).0 h.2), λ h. (h.0, h.1, (shares e there h.0 h.1).1 h.2))

    moved : (operator : WitnessOperator) (w : Witness) → IsCanonical o s operator w → IsCanonical o t operator w
    moved _ _ (W.IsCanonical.reaches b steps) = W.IsCanonical.reaches (sym bottom ∙ b) steps
    moved _ _ (W.IsCanonical.never b) = W.IsCanonical.never (sym bottom ∙ b)
    moved _ _ (W.IsCanonical.refuted_at_start n) = W.IsCanonical.refuted_at_start (λ h. n ((cuts (initial o)).1 h))
    moved _ _ (W.IsCanonical.refuted {e = e} start first goal steps) = W.IsCanonical.refuted ((cuts (initial o)).0 start) (first_same o (Departs o s) (Departs o t) departs e first) goal steps
    moved _ _ (W.IsCanonical.each_time start rows) = W.IsCanonical.each_time ((cuts (initial o)).0 start) (λ e there. sym (row e there) ∙ rows e there)
    moved _ _ (W.IsCanonical.stays {path = path} goal steps) = W.IsCanonical.stays goal (first_steps_same (Cuts o s) (Cuts o t) cuts (initial o) path.steps path.goal steps)
    moved _ _ (W.IsCanonical.false_at_start n) = W.IsCanonical.false_at_start (λ h. n ((cuts (initial o)).1 h))
    moved _ _ (W.IsCanonical.false_at_finish start n) = W.IsCanonical.false_at_finish ((cuts (initial o)).0 start) (λ h. n ((cuts (lengths o)).1 h))
    moved _ _ (W.IsCanonical.come_together {first = e} {other = g} start finish first other) = W.IsCanonical.come_together
        ((cuts (initial o)).0 start) ((cuts (lengths o)).0 finish)
        (first_same o (λ e. (f : Place) × IsPlace o f × Shares s e f) (λ e. (f : Place) × IsPlace o f × Shares t e f) sharing e first)
        (first_same o (Shares s e) (Shares t e) (shares e first.there) g other)
    moved _ _ (W.IsCanonical.reaches_next {process = i} first) = W.IsCanonical.reaches_next (first.0, (cuts (with_next (initial o) i)).0 first.1)
    moved _ _ (W.IsCanonical.never_next {process = i} none) = W.IsCanonical.never_next (λ first. none (first.0, (cuts (with_next (initial o) i)).1 first.1))

-- ---- there is one canonical witness

-- steps that lead somewhere lead to another cut
steps_rise : (A : Cut → Type 0) (c : Cut) (es : List Place) (d : Cut) → FirstSteps A c es d → total c + length es ≡ total d
steps_rise A c [] d p = omega (arith, ap total p.1)
steps_rise A c (e ∷ es) d p = omega (arith, steps_rise A (with_next c e.process) es d p.4, total_next c e.process p.1)

same_process : (A : Cut → Type 0) (c : Cut) (i j : ℕ) → A (with_next c i) → A (with_next c j) → ((k : ℕ) → k < i → A (with_next c k) → ⊥) → ((k : ℕ) → k < j → A (with_next c k) → ⊥) → i ≡ j
same_process A c i j h k first other = elim (cases_order i j) [
  | inl e ↦ e
  | inr w ↦ elim w [ inl l ↦ absurd (other i l h) | inr g ↦ absurd (first j g k) ]
]

steps_start : (A : Cut → Type 0) (c : Cut) (es : List Place) (d : Cut) → FirstSteps A c es d → A c
steps_start A c [] d p = p.0
steps_start A c (e ∷ es) d p = p.0

one_place : (e f : Place) → e.process ≡ f.process → e.position ≡ f.position → e ≡ f
one_place e f p q = λ i. record { process = p i; position = q i }

first_steps_one : (A : Cut → Type 0) (c : Cut) (es fs : List Place) (d : Cut) → FirstSteps A c es d → FirstSteps A c fs d → es ≡ fs
first_steps_one A c [] [] d p q = refl
first_steps_one A c [] (f ∷ fs) d p q = absurd (omega (arith, steps_rise A c [] d p, steps_rise A c (f ∷ fs) d q))
first_steps_one A c (e ∷ es) [] d p q = absurd (omega (arith, steps_rise A c (e ∷ es) d p, steps_rise A c [] d q))
first_steps_one A c (e ∷ es) (f ∷ fs) d p q =
    let same = same_process A c e.process f.process (steps_start A (with_next c e.process) es d p.4) (steps_start A (with_next c f.process) fs d q.4) p.3 q.3 in
    let head = one_place e f same (p.2 ∙ ap (λ i. count c i + 1) same ∙ sym q.2) in
    let rest = first_steps_one A (with_next c e.process) es fs d p.4 (subst (λ i. FirstSteps A (with_next c i) fs d) (sym same) q.4) in
    ap (λ x. x ∷ es) head ∙ ap (λ l. f ∷ l) rest

first_one : (o : Clocks) (P : Place → Type 0) (e f : Place) → IsFirst o P e → IsFirst o P f → e ≡ f
first_one o P e f p q = elim (cases_order e.process f.process) [
  | inr w ↦ elim w [ inl l ↦ absurd (q.first e p.there (inl l) p.has) | inr g ↦ absurd (p.first f q.there (inl g) q.has) ]
  | inl same ↦ elim (cases_order e.position f.position) [
    | inl here ↦ one_place e f same here
    | inr w ↦ elim w [ inl l ↦ absurd (q.first e p.there (inr (same, l)) p.has) | inr g ↦ absurd (p.first f q.there (inr (sym same, g)) q.has) ]
  ]
]

one_path : (A : Cut → Type 0) (c : Cut) (path other : PathTo) → path.goal ≡ other.goal → FirstSteps A c path.steps path.goal → FirstSteps A c other.steps other.goal → path ≡ other
one_path A c path other goal p q =
    let steps : path.steps ≡ other.steps = first_steps_one A c path.steps other.steps path.goal p (subst (λ d. FirstSteps A c other.steps d) (sym goal) q) in
    λ i. record { goal = goal i; steps = steps i }

one_path_to : (o : Clocks) (path other : PathTo) → path.goal ≡ other.goal → FirstStepsTo o path → FirstStepsTo o other → path ≡ other
one_path_to o path other goal p q = one_path (λ c. IsConsistent o c × IsWithin c path.goal) (initial o) path other goal p (subst (λ d. FirstSteps (λ c. IsConsistent o c × IsWithin c d) (initial o) other.steps other.goal) (sym goal) q)

some_goal : (k : Option Cut) (c d : Cut) → k ≡ Some c → k ≡ Some d → c ≡ d
some_goal k c d p q = cc

none_goal : (k : Option Cut) (c : Cut) → k ≡ Some c → k ≡ None → ⊥
none_goal k c p q = cc

steps_end : (A : Cut → Type 0) (c : Cut) (es : List Place) (d : Cut) → FirstSteps A c es d → A d
steps_end A c [] d p = subst A p.1 p.0
steps_end A c (e ∷ es) d p = steps_end A (with_next c e.process) es d p.4

steps_all : (o : Clocks) (A : Cut → Type 0) → ((c : Cut) → A c → IsConsistent o c) → (c : Cut) (es : List Place) (d : Cut) → FirstSteps A c es d → IsPath o c (cuts_along c es) d × AllIn A c (cuts_along c es)
unfolding cuts_along
steps_all o A consistent c [] d p = ((consistent c p.0, p.1), p.0)
steps_all o A consistent c (e ∷ es) d p =
    let rest = steps_all o A consistent (with_next c e.process) es d p.4 in
    ((consistent c p.0, (e.process, p.1, refl), rest.0), (p.0, rest.1))

-- no steps through the slice lead to the final cut where two events share a row
pair_stops : (o : Clocks) (s : Slice) → Fits o s → (path : PathTo) → path.goal ≡ lengths o → FirstSteps (Cuts o s) (initial o) path.steps path.goal → (e f : Place) → IsPlace o e → IsPlace o f → Shares s e f → ⊥
pair_stops o s fits path goal steps e f there place shares =
    let along = steps_all o (Cuts o s) (λ c k. k.consistent) (initial o) path.steps (lengths o) (subst (λ d. FirstSteps (Cuts o s) (initial o) path.steps d) goal steps) in
    pair_refutes o (Cuts o s) e.process e.position f.process f.position there place shares.0
    (rows_both o (Cuts o s) s fits e.process e.position f.process f.position there place (sym shares.1))
    (initial o) (omega (arith, count-initial o e.process, there.0)) (cuts_along (initial o) path.steps, along.0, along.1)

reach_one : (o : Clocks) (s : Slice) (w v : Witness) → IsCanonical o s ForEf w → IsCanonical o s ForEf v → w ≡ v
reach_one o s _ _ (W.IsCanonical.reaches {path = p} b steps) (W.IsCanonical.reaches {path = q} c other) = ap W.Reach (one_path_to o p q (some_goal s.bottom p.goal q.goal b c) steps other)
reach_one o s _ _ (W.IsCanonical.reaches {path = p} b steps) (W.IsCanonical.never c) = absurd (none_goal s.bottom p.goal b c)
reach_one o s _ _ (W.IsCanonical.never c) (W.IsCanonical.reaches {path = p} b steps) = absurd (none_goal s.bottom p.goal b c)
reach_one o s _ _ (W.IsCanonical.never b) (W.IsCanonical.never c) = refl

against_one : (o : Clocks) (s : Slice) (w v : Witness) → IsCanonical o s ForAg w → IsCanonical o s ForAg v → w ≡ v
against_one o s _ _ (W.IsCanonical.refuted_at_start n) (W.IsCanonical.refuted_at_start m) = refl
against_one o s _ _ (W.IsCanonical.refuted_at_start n) (W.IsCanonical.refuted start first goal steps) = absurd (n start)
against_one o s _ _ (W.IsCanonical.refuted_at_start n) (W.IsCanonical.each_time start rows) = absurd (n start)
against_one o s _ _ (W.IsCanonical.refuted start first goal steps) (W.IsCanonical.refuted_at_start n) = absurd (n start)
against_one o s _ _ (W.IsCanonical.refuted {path = p} {e = e} start first goal steps) (W.IsCanonical.refuted {path = q} {e = f} begin second end other) =
    let same = first_one o (Departs o s) e f first second in
    ap W.Against (one_path_to o p q (goal ∙ ap (λ (g : Place). clock o g.process g.position) same ∙ sym end) steps other)
against_one o s _ _ (W.IsCanonical.refuted {e = e} start first goal steps) (W.IsCanonical.each_time begin rows) = absurd (first.has (rows e first.there))
against_one o s _ _ (W.IsCanonical.each_time start rows) (W.IsCanonical.refuted_at_start n) = absurd (n start)
against_one o s _ _ (W.IsCanonical.each_time start rows) (W.IsCanonical.refuted {e = e} begin first goal steps) = absurd (first.has (rows e first.there))
against_one o s _ _ (W.IsCanonical.each_time start rows) (W.IsCanonical.each_time begin others) = refl

always_one : (o : Clocks) (s : Slice) → Fits o s → (w v : Witness) → IsCanonical o s ForEg w → IsCanonical o s ForEg v → w ≡ v
always_one o s fits _ _ (W.IsCanonical.stays {path = p} goal steps) (W.IsCanonical.stays {path = q} end other) = ap W.Always (one_path (Cuts o s) (initial o) p q (goal ∙ sym end) steps other)
always_one o s fits _ _ (W.IsCanonical.stays {path = p} goal steps) (W.IsCanonical.false_at_start n) = absurd (n (steps_start (Cuts o s) (initial o) p.steps p.goal steps))
always_one o s fits _ _ (W.IsCanonical.stays {path = p} goal steps) (W.IsCanonical.false_at_finish start n) = absurd (n (subst (Cuts o s) goal (steps_end (Cuts o s) (initial o) p.steps p.goal steps)))
always_one o s fits _ _ (W.IsCanonical.stays {path = p} goal steps) (W.IsCanonical.come_together {first = e} start finish first other) = absurd (pair_stops o s fits p goal steps e first.has.0 first.there first.has.1 first.has.2)
always_one o s fits _ _ (W.IsCanonical.false_at_start n) (W.IsCanonical.stays {path = p} goal steps) = absurd (n (steps_start (Cuts o s) (initial o) p.steps p.goal steps))
always_one o s fits _ _ (W.IsCanonical.false_at_start n) (W.IsCanonical.false_at_start m) = refl
always_one o s fits _ _ (W.IsCanonical.false_at_start n) (W.IsCanonical.false_at_finish start m) = absurd (n start)
always_one o s fits _ _ (W.IsCanonical.false_at_start n) (W.IsCanonical.come_together start finish first other) = absurd (n start)
always_one o s fits _ _ (W.IsCanonical.false_at_finish start n) (W.IsCanonical.stays {path = p} goal steps) = absurd (n (subst (Cuts o s) goal (steps_end (Cuts o s) (initial o) p.steps p.goal steps)))
always_one o s fits _ _ (W.IsCanonical.false_at_finish start n) (W.IsCanonical.false_at_start m) = absurd (m start)
always_one o s fits _ _ (W.IsCanonical.false_at_finish start n) (W.IsCanonical.false_at_finish begin m) = refl
always_one o s fits _ _ (W.IsCanonical.false_at_finish start n) (W.IsCanonical.come_together begin finish first other) = absurd (n finish)
always_one o s fits _ _ (W.IsCanonical.come_together {first = e} start finish first other) (W.IsCanonical.stays {path = p} goal steps) = absurd (pair_stops o s fits p goal steps e first.has.0 first.there first.has.1 first.has.2)
always_one o s fits _ _ (W.IsCanonical.come_together start finish first other) (W.IsCanonical.false_at_start n) = absurd (n start)
always_one o s fits _ _ (W.IsCanonical.come_together start finish first other) (W.IsCanonical.false_at_finish begin n) = absurd (n finish)
always_one o s fits _ _ (W.IsCanonical.come_together {first = e} {other = f} start finish first other) (W.IsCanonical.come_together {first = g} {other = h} begin end second another) =
    let same = first_one o (λ e. (f : Place) × IsPlace o f × Shares s e f) e g first second in
    let both = first_one o (Shares s g) f h (subst (λ x. IsFirst o (Shares s x) f) same other) another in
    ap (λ x. W.StuckPair x f) same ∙ ap (W.StuckPair g) both

next_one : (o : Clocks) (s : Slice) (i : ℕ) (w v : Witness) → IsCanonical o s (ExistsNext i) w → IsCanonical o s (ExistsNext i) v → w ≡ v
next_one o s i _ _ (W.IsCanonical.reaches_next first) (W.IsCanonical.reaches_next other) = refl
next_one o s i _ _ (W.IsCanonical.reaches_next first) (W.IsCanonical.never_next none) = absurd (none first)
next_one o s i _ _ (W.IsCanonical.never_next none) (W.IsCanonical.reaches_next first) = absurd (none first)
next_one o s i _ _ (W.IsCanonical.never_next none) (W.IsCanonical.never_next other) = refl

-- an operator over a slice has one canonical witness at most
pub canonical_one : (o : Clocks) (s : Slice) → Fits o s → (operator : WitnessOperator) (w v : Witness) → IsCanonical o s operator w → IsCanonical o s operator v → w ≡ v
canonical_one o s fits ForEf w v p q = reach_one o s w v p q
canonical_one o s fits ForAg w v p q = against_one o s w v p q
canonical_one o s fits ForEg w v p q = always_one o s fits w v p q
canonical_one o s fits (ExistsNext i) w v p q = next_one o s i w v p q
