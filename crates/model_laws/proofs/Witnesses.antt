-- A part that is regular in a run has one witness.
use Rattle.std.proofs.Common.{◌≡◌, ℕ, ◌<◌, ◌≤◌, ◌⊎◌, ◌↔◌, ◌&&◌, Bool, true, [], length, Option, Some, None, sym, ap, ◌∙◌, subst, refl, inl, inr, arith}
use Rattle.std.proofs.lemmas.Bool.{cases_lt, cases_eq, and_parts, false≢true}
use Rattle.run_model.specs.Cut.{Cut, Clocks, IsWithin, with_next, lengths, initial}
use Rattle.run_model.specs.Run.{Name, Run}
use Rattle.run_model.specs.Consistent.{clock, IsOrder}
use Rattle.run_model.specs.Sublattice.{IsSublattice, Having, Smallest}
use Rattle.run_model.specs.Slice.{Slice, IsLeastOf, Cuts, StandsFor, cut_of}
use Rattle.run_model.specs.Operators.{HasPairs}
use Rattle.run_model.specs.Formula.{Operator, Ef, Ag, Eg, Af, Ax, Formula, Truth, Comparison, Watched, InTransit, Empty, Difference, Not, And, Or, Temporal, Next, Until}
use Rattle.run_model.specs.Meaning.{IsRun, Family}
use Rattle.run_model.specs.Class.{is_analysed, is_conjunctive, IsKeptFor, IsRegular, IsRegularIn}
use Rattle.run_model.specs.Witness.{WitnessOperator, ForEf, ForAg, ForEg, ExistsNext, IsPartOf, HasFirst, Place, PathTo, Witness, Nothing, first_event_of, IsOfKind, IsPlace, FirstSteps, IsFirst, row_at, AreTwo, Departs, Shares, IsCanonical, explained, IsWitnessOf}
use Rattle.run_model.specs.Witness as W
use Rattle.run_model.proofs.Counts.{within_both, initial_within}
use Rattle.run_model.proofs.Orders.{initial_consistent, past_consistent, past_has, has_past}
use Rattle.run_model.proofs.SliceLemmas.{cuts_member, member_cuts, least_of_member, stands_same, stands_fits, exact_slice}
use Rattle.meaning_laws.proofs.JoinLemmas.{smallest_of_closed}
use Rattle.meaning_laws.proofs.OperatorLemmas.{Below, below_climbable, below_apart, set_climbable, pairs_apart}
use Rattle.meaning_laws.proofs.RegularLemmas.{regular_closed}
use Rattle.meaning_laws.proofs.DecisionLemmas.{Decided, decide_within, decide_consistent, decide_sat}
use Rattle.meaning_laws.proofs.ListedSlices.{listed_slice, listed_stands}
use Rattle.meaning_laws.proofs.WitnessLemmas.{canonical_is_of_kind, canonical_same, canonical_one, first_steps_same}
use Rattle.model_laws.proofs.FirstEvents.{at, first_event}
use Rattle.model_laws.proofs.FirstPaths.{first_path}

-- a closed and decided set of consistent cuts, and its slice
record Operand (o : Clocks) (A : Cut → Type 0) (s : Slice) : Type 0 where
  order : IsOrder o
  closed : IsSublattice o A
  stands : StandsFor o s A
  decide : (c : Cut) → Decided (A c)

decide_both : {P Q : Type 0} → Decided P → Decided Q → Decided (P × Q)
decide_both p q = elim p [
  | inr n ↦ inr (λ h. n h.0)
  | inl a ↦ elim q [ inr n ↦ inr (λ h. n h.1) | inl b ↦ inl (a, b) ]
]

in_set : (o : Clocks) (A : Cut → Type 0) (s : Slice) → Operand o A s → (c : Cut) → A c ↔ Cuts o s c
in_set o A s k c = exact_slice o A k.closed s k.stands c

-- ---- EF

reach_by : (o : Clocks) (A : Cut → Type 0) (s : Slice) → Operand o A s → (b : Option Cut) → s.bottom ≡ b → IsLeastOf A b → (w : Witness) × IsCanonical o s ForEf w
reach_by o A s k None e least = (Nothing, W.IsCanonical.never e)
reach_by o A s k (Some goal) e least =
    let consistent = k.closed.consistent goal least.member in
    let path = first_path o (Below o goal) goal (clock o) (below_climbable o k.order goal consistent) (λ c. decide_both (decide_consistent o c) (decide_within c goal))
    (initial o) (initial_consistent o, initial_within o goal) (below_apart o k.order (initial o) goal consistent) in
    (W.Reach (record { goal = goal; steps = path.0 }), W.IsCanonical.reaches e path.1)

reach_there : (o : Clocks) (A : Cut → Type 0) (s : Slice) → Operand o A s → (w : Witness) × IsCanonical o s ForEf w
reach_there o A s k = reach_by o A s k s.bottom refl k.stands.bottom

-- ---- AG

-- the row of an event whose past is a member is that past
row_is_past : (o : Clocks) (A : Cut → Type 0) (s : Slice) → Operand o A s → (e : Place) → IsPlace o e → A (clock o e.process e.position) → row_at s e ≡ Some (clock o e.process e.position)
row_is_past o A s k e there member =
    let i = e.process in
    let a = e.position in
    let r = least_of_member (Having A i a) (s.row i a) (clock o i a) (k.stands.rows i a there) (member, past_has o k.order i a there) in
    let kept = k.closed.consistent r.0 r.2.member.0 in
    let up = has_past o k.order r.0 kept i a (there.0, r.2.member.1) in
    r.1 ∙ ap Some (within_both r.0 (clock o i a) (kept.shaped ∙ sym (k.order.shaped i a there)) r.3 up)

decide_departs : (o : Clocks) (A : Cut → Type 0) (s : Slice) → Operand o A s → (e : Place) → IsPlace o e → Decided (Departs o s e)
decide_departs o A s k e there = elim (k.decide (clock o e.process e.position)) [
  | inl m ↦ inr (λ d. d (row_is_past o A s k e there m))
  | inr n ↦ inl (λ same. n ((subst (IsLeastOf (Having A e.process e.position)) same (k.stands.rows e.process e.position there)).member.0))
]

not_departing : (o : Clocks) (A : Cut → Type 0) (s : Slice) → Operand o A s → ((e : Place) → IsPlace o e → Departs o s e → ⊥) → (e : Place) → IsPlace o e → row_at s e ≡ Some (clock o e.process e.position)
not_departing o A s k none e there = elim (k.decide (clock o e.process e.position)) [
  | inl m ↦ row_is_past o A s k e there m
  | inr n ↦ absurd (none e there (λ same. n ((subst (IsLeastOf (Having A e.process e.position)) same (k.stands.rows e.process e.position there)).member.0)))
]

against_there : (o : Clocks) (A : Cut → Type 0) (s : Slice) → Operand o A s → (w : Witness) × IsCanonical o s ForAg w
against_there o A s k = elim (k.decide (initial o)) [
  | inr n ↦ (W.Against (record { goal = initial o; steps = [] }), W.IsCanonical.refuted_at_start (λ h. n ((in_set o A s k (initial o)).1 h)))
  | inl start ↦ elim (first_event o (Departs o s) (decide_departs o A s k)) [
    | inl found ↦
        let e = found.0 in
        let goal = clock o e.process e.position in
        let consistent = past_consistent o k.order e.process e.position found.1.there in
        let path = first_path o (Below o goal) goal (clock o) (below_climbable o k.order goal consistent) (λ c. decide_both (decide_consistent o c) (decide_within c goal))
        (initial o) (initial_consistent o, initial_within o goal) (below_apart o k.order (initial o) goal consistent) in
        (W.Against (record { goal = goal; steps = path.0 }), W.IsCanonical.refuted {e = e} ((in_set o A s k (initial o)).0 start) found.1 refl path.1)
    | inr none ↦ (Nothing, W.IsCanonical.each_time ((in_set o A s k (initial o)).0 start) (not_departing o A s k none))
  ]
]

-- ---- EG

decide_two : (e f : Place) → Decided (AreTwo e f)
decide_two e f = elim (cases_eq e.process f.process) [
  | inr ne ↦ inl (λ h. ne h.0)
  | inl p ↦ elim (cases_eq e.position f.position) [
    | inr ne ↦ inl (λ h. ne h.1)
    | inl q ↦ inr (λ n. n (p, q))
  ]
]

-- the row of an event, where the final cut is a member
row_there : (o : Clocks) (A : Cut → Type 0) (s : Slice) → Operand o A s → A (lengths o) → (e : Place) → IsPlace o e → (j : Cut) × (row_at s e ≡ Some j) × A j
row_there o A s k final e there =
    let r = least_of_member (Having A e.process e.position) (row_at s e) (lengths o) (k.stands.rows e.process e.position there) (final, there.1) in
    (r.0, r.1, r.2.member.0)

some_is : (c d : Cut) → Some c ≡ Some d → c ≡ d
some_is c d e = cc

decide_rows : (o : Clocks) (A : Cut → Type 0) (s : Slice) → Operand o A s → A (lengths o) → (e f : Place) → IsPlace o e → IsPlace o f → Decided (row_at s f ≡ row_at s e)
decide_rows o A s k final e f there place =
    let r = row_there o A s k final e there in
    let u = row_there o A s k final f place in
    let sizes : length u.0 ≡ length r.0 = (k.closed.consistent u.0 u.2).shaped ∙ sym (k.closed.consistent r.0 r.2).shaped in
    let one : row_at s f ≡ row_at s e → u.0 ≡ r.0 = λ same. some_is u.0 r.0 (sym u.1 ∙ same ∙ r.1) in
    elim (decide_within u.0 r.0) [
      | inr n ↦ inr (λ same. n (subst (IsWithin u.0) (one same) (λ i. omega arith)))
      | inl p ↦ elim (decide_within r.0 u.0) [
        | inr n ↦ inr (λ same. n (subst (λ x. IsWithin x u.0) (one same) (λ i. omega arith)))
        | inl q ↦ inl (u.1 ∙ ap Some (within_both u.0 r.0 sizes p q) ∙ sym r.1)
      ]
    ]

abbrev Shared : Clocks → Slice → Place → Type 0
Shared o s e = (f : Place) × IsPlace o f × Shares s e f

decide_shares : (o : Clocks) (A : Cut → Type 0) (s : Slice) → Operand o A s → A (lengths o) → (e : Place) → IsPlace o e → (f : Place) → IsPlace o f → Decided (Shares s e f)
decide_shares o A s k final e there f place = decide_both (decide_two e f) (decide_rows o A s k final e f there place)

first_other : (o : Clocks) (A : Cut → Type 0) (s : Slice) → Operand o A s → A (lengths o) → (e : Place) → IsPlace o e → ((f : Place) × IsFirst o (Shares s e) f) ⊎ ((f : Place) → IsPlace o f → Shares s e f → ⊥)
first_other o A s k final e there = first_event o (Shares s e) (decide_shares o A s k final e there)

decide_shared : (o : Clocks) (A : Cut → Type 0) (s : Slice) → Operand o A s → A (lengths o) → (e : Place) → IsPlace o e → Decided (Shared o s e)
decide_shared o A s k final e there = elim (first_other o A s k final e there) [
  | inl found ↦ inl (found.0, found.1.there, found.1.has)
  | inr none ↦ inr (λ h. none h.0 h.1 h.2)
]

no_pairs : (o : Clocks) (s : Slice) → ((e : Place) → IsPlace o e → Shared o s e → ⊥) → (c : Cut) → HasPairs o s c
no_pairs o s none c i a j b ev fv same differ = absurd (none (at i a) ev (at j b, fv, (differ, sym same)))

stay_there : (o : Clocks) (A : Cut → Type 0) (s : Slice) → Operand o A s → A (initial o) → A (lengths o) → ((e : Place) → IsPlace o e → Shared o s e → ⊥) → (w : Witness) × IsCanonical o s ForEg w
stay_there o A s k start final none =
    let path = first_path o A (lengths o) (λ i a. cut_of (s.row i a)) (set_climbable o A k.closed s k.stands final) k.decide (initial o) start
    (pairs_apart o A k.closed s k.stands final (initial o) (no_pairs o s none (initial o))) in
    (W.Always (record { goal = lengths o; steps = path.0 }), W.IsCanonical.stays refl (first_steps_same A (Cuts o s) (in_set o A s k) (initial o) path.0 (lengths o) path.1))

pair_there : (o : Clocks) (A : Cut → Type 0) (s : Slice) → Operand o A s → A (initial o) → A (lengths o) → (e : Place) → IsFirst o (Shared o s) e → (w : Witness) × IsCanonical o s ForEg w
pair_there o A s k start final e first = elim (first_other o A s k final e first.there) [
  | inl other ↦ (W.StuckPair e other.0, W.IsCanonical.come_together {first = e} {other = other.0} ((in_set o A s k (initial o)).0 start) ((in_set o A s k (lengths o)).0 final) first other.1)
  | inr none ↦ absurd (none first.has.0 first.has.1 first.has.2)
]

always_there : (o : Clocks) (A : Cut → Type 0) (s : Slice) → Operand o A s → (w : Witness) × IsCanonical o s ForEg w
always_there o A s k = elim (k.decide (initial o)) [
  | inr n ↦ (W.StuckStart, W.IsCanonical.false_at_start (λ h. n ((in_set o A s k (initial o)).1 h)))
  | inl start ↦ elim (k.decide (lengths o)) [
    | inr n ↦ (W.StuckFinish, W.IsCanonical.false_at_finish ((in_set o A s k (initial o)).0 start) (λ h. n ((in_set o A s k (lengths o)).1 h)))
    | inl final ↦ elim (first_event o (Shared o s) (decide_shared o A s k final)) [
      | inl found ↦ pair_there o A s k start final found.0 found.1
      | inr none ↦ stay_there o A s k start final none
    ]
  ]
]

next_there : (o : Clocks) (A : Cut → Type 0) (s : Slice) → Operand o A s → (i : ℕ) → (w : Witness) × IsCanonical o s (ExistsNext i) w
next_there o A s k i = elim (cases_lt i (length o)) [
  | inr past ↦ (Nothing, W.IsCanonical.never_next (λ first. absurd (omega (arith, past, first.0))))
  | inl there ↦ elim (k.decide (with_next (initial o) i)) [
    | inl member ↦ (W.Reach (first_event_of o i), W.IsCanonical.reaches_next (there, member_cuts o A k.closed s k.stands (with_next (initial o) i) member))
    | inr n ↦ (Nothing, W.IsCanonical.never_next (λ first. n (cuts_member o A k.closed s k.stands (with_next (initial o) i) first.1)))
  ]
]

pub canonical_there : (o : Clocks) (A : Cut → Type 0) (s : Slice) → IsOrder o → IsSublattice o A → StandsFor o s A → ((c : Cut) → Decided (A c)) → (operator : WitnessOperator) → (w : Witness) × IsCanonical o s operator w
canonical_there o A s order closed stands decide operator = by_operator operator
  where
    k : Operand o A s
    k = record { order = order; closed = closed; stands = stands; decide = decide }

    by_operator : (operator : WitnessOperator) → (w : Witness) × IsCanonical o s operator w
    by_operator ForEf = reach_there o A s k
    by_operator ForAg = against_there o A s k
    by_operator ForEg = always_there o A s k
    by_operator (ExistsNext i) = next_there o A s k i

-- ---- of a part

decide_family : (r : Run) → IsOrder r.clocks → (f : Formula) → (c : Cut) → Decided (Family r f c)
decide_family r order f c = elim (decide_consistent r.clocks c) [
  | inr n ↦ inr (λ h. n h.0)
  | inl k ↦ elim (decide_sat r order f c k) [ inl s ↦ inl (k, s) | inr n ↦ inr (λ h. n h.1) ]
]

family_slice : (r : Run) → IsRun r → (f : Formula) → IsRegularIn r f → (s : Slice) × StandsFor r.clocks s (Family r f)
family_slice r run f regular =
    (listed_slice r f, stands_same r.clocks (listed_slice r f) (Smallest (Family r f)) (Family r f) (smallest_of_closed r.clocks (Family r f) (regular_closed r run f regular)) (listed_stands r run.order f))

witness_by : (r : Run) → IsRun r → (operator : WitnessOperator) (f : Formula) → IsRegularIn r f → (w : Witness) × ((s : Slice) × StandsFor r.clocks s (Family r f) × IsCanonical r.clocks s operator w)
witness_by r run operator f regular =
    let slice = family_slice r run f regular in
    let found = canonical_there r.clocks (Family r f) slice.0 run.order (regular_closed r run f regular) slice.1 (decide_family r run.order f) operator in
    (found.0, (slice.0, slice.1, found.1))

-- an operand of EF, AG or EG, and of EX
operand_regular : (r : Run) (operator : Operator) (f : Formula) → IsRegularIn r (Temporal operator f) → IsRegularIn r f
unfolding is_conjunctive
operand_regular r operator f h = record { form = (and_parts (is_analysed operator) (is_conjunctive true f) h.form).1; kept = h.kept }

next_regular : (r : Run) (p : Name) (f : Formula) → IsRegularIn r (Next p f) → IsRegularIn r f
unfolding is_conjunctive
next_regular r p f h = record { form = h.form; kept = h.kept }

pub witness_there : (r : Run) → IsRun r → (f : Formula) → IsRegularIn r f → (w : Witness) × IsWitnessOf r f w
unfolding is_conjunctive
witness_there r run (Truth b) h = (Nothing, refl)
witness_there r run (Comparison p v relation side) h = (Nothing, refl)
witness_there r run (Watched p w) h = (Nothing, refl)
witness_there r run (InTransit p q relation k) h = (Nothing, refl)
witness_there r run (Empty p q) h = (Nothing, refl)
witness_there r run (Difference p x q y relation m) h = (Nothing, refl)
witness_there r run (Not f) h = (Nothing, refl)
witness_there r run (And fs) h = (Nothing, refl)
witness_there r run (Or fs) h = (Nothing, refl)
witness_there r run (Temporal Ef f) h = witness_by r run ForEf f (operand_regular r Ef f h)
witness_there r run (Temporal Ag f) h = witness_by r run ForAg f (operand_regular r Ag f h)
witness_there r run (Temporal Eg f) h = witness_by r run ForEg f (operand_regular r Eg f h)
witness_there r run (Temporal Af f) h = (Nothing, refl)
witness_there r run (Temporal Ax f) h = (Nothing, refl)
witness_there r run (Next p f) h = witness_by r run (ExistsNext (r.process p)) f (next_regular r p f h)
witness_there r run (Until all left right) h = (Nothing, refl)

abbrev Canonical : Run → WitnessOperator → Formula → Witness → Type 0
Canonical r operator f w = (s : Slice) × StandsFor r.clocks s (Family r f) × IsCanonical r.clocks s operator w

one_by : (r : Run) → IsRun r → (operator : WitnessOperator) (f : Formula) → IsRegularIn r f → (w v : Witness) → Canonical r operator f w → Canonical r operator f v → w ≡ v
one_by r run operator f regular w v h k =
    let closed = regular_closed r run f regular in
    canonical_one r.clocks k.0 (stands_fits r.clocks (Family r f) closed k.0 k.1) operator w v
    (canonical_same r.clocks (Family r f) closed h.0 k.0 h.1 k.1 operator w h.2) k.2

pub witness_one : (r : Run) → IsRun r → (f : Formula) → IsRegularIn r f → (w v : Witness) → IsWitnessOf r f w → IsWitnessOf r f v → w ≡ v
unfolding is_conjunctive
witness_one r run (Truth b) g w v h k = h ∙ sym k
witness_one r run (Comparison p x relation side) g w v h k = h ∙ sym k
witness_one r run (Watched p x) g w v h k = h ∙ sym k
witness_one r run (InTransit p q relation n) g w v h k = h ∙ sym k
witness_one r run (Empty p q) g w v h k = h ∙ sym k
witness_one r run (Difference p x q y relation n) g w v h k = h ∙ sym k
witness_one r run (Not f) g w v h k = h ∙ sym k
witness_one r run (And fs) g w v h k = h ∙ sym k
witness_one r run (Or fs) g w v h k = h ∙ sym k
witness_one r run (Temporal Ef f) g w v h k = one_by r run ForEf f (operand_regular r Ef f g) w v h k
witness_one r run (Temporal Ag f) g w v h k = one_by r run ForAg f (operand_regular r Ag f g) w v h k
witness_one r run (Temporal Eg f) g w v h k = one_by r run ForEg f (operand_regular r Eg f g) w v h k
witness_one r run (Temporal Af f) g w v h k = h ∙ sym k
witness_one r run (Temporal Ax f) g w v h k = h ∙ sym k
witness_one r run (Next p f) g w v h k = one_by r run (ExistsNext (r.process p)) f (next_regular r p f g) w v h k
witness_one r run (Until all left right) g w v h k = h ∙ sym k

kind_by : (r : Run) → IsRun r → (operator : WitnessOperator) (f : Formula) → IsRegularIn r f → (part : Formula) → IsPartOf r operator f part → (w : Witness) → Canonical r operator f w → IsOfKind r part w
kind_by r run operator f regular part e w h = canonical_is_of_kind r run.order f (regular_closed r run f regular) h.0 h.1 operator part e w h.2

plain_kind : (r : Run) (f : Formula) (w : Witness) → w ≡ Nothing → IsOfKind r f Nothing → IsOfKind r f w
plain_kind r f w e k = subst (IsOfKind r f) (sym e) k

pub witness_kind : (r : Run) → IsRun r → (f : Formula) → IsRegularIn r f → (w : Witness) → IsWitnessOf r f w → IsOfKind r f w
unfolding is_conjunctive
witness_kind r run (Truth b) g w h = plain_kind r (Truth b) w h (W.IsOfKind.not_temporal refl)
witness_kind r run (Comparison p x relation side) g w h = plain_kind r (Comparison p x relation side) w h (W.IsOfKind.not_temporal refl)
witness_kind r run (Watched p x) g w h = plain_kind r (Watched p x) w h (W.IsOfKind.not_temporal refl)
witness_kind r run (InTransit p q relation k) g w h = plain_kind r (InTransit p q relation k) w h (W.IsOfKind.not_temporal refl)
witness_kind r run (Empty p q) g w h = plain_kind r (Empty p q) w h (W.IsOfKind.not_temporal refl)
witness_kind r run (Difference p x q y relation m) g w h = plain_kind r (Difference p x q y relation m) w h (W.IsOfKind.not_temporal refl)
witness_kind r run (Not f) g w h = plain_kind r (Not f) w h (W.IsOfKind.not_temporal refl)
witness_kind r run (And fs) g w h = plain_kind r (And fs) w h (W.IsOfKind.not_temporal refl)
witness_kind r run (Or fs) g w h = plain_kind r (Or fs) w h (W.IsOfKind.not_temporal refl)
witness_kind r run (Temporal Ef f) g w h = kind_by r run ForEf f (operand_regular r Ef f g) (Temporal Ef f) refl w h
witness_kind r run (Temporal Ag f) g w h = kind_by r run ForAg f (operand_regular r Ag f g) (Temporal Ag f) refl w h
witness_kind r run (Temporal Eg f) g w h = kind_by r run ForEg f (operand_regular r Eg f g) (Temporal Eg f) refl w h
witness_kind r run (Temporal Af f) g w h = absurd (false≢true g.form)
witness_kind r run (Temporal Ax f) g w h = absurd (false≢true g.form)
witness_kind r run (Next p f) g w h = kind_by r run (ExistsNext (r.process p)) f (next_regular r p f g) (Next p f) (p, refl, refl) w h
witness_kind r run (Until all left right) g w h = absurd (false≢true g.form)
