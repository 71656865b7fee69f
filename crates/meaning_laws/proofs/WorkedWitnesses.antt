-- How the canonical witness of a worked example is proved: by computing over the listed slice of the operand.
use Rattle.std.proofs.Common.{◌≡◌, ℕ, ◌+◌, ◌-◌, Bool, true, false, not, ◌&&◌, ◌||◌, eqb, ltb, leb, List, [], ◌∷◌, length, Option, Some, None, Decides, ap, subst, refl, inl, inr, arith}
use Rattle.std.proofs.lemmas.Bool.{false≢true, both_ways, and_parts, and_from, or_cases, or_left, or_right, not-true, not_from_false, eqb-true, eq-eqb, leb-true, ltb-true, lt-ltb}
use Rattle.run_model.specs.Cut.{Cut, Clocks, count, IsWithin, with_next, lengths, initial}
use Rattle.run_model.specs.Run.{Trace, clocks_of}
use Rattle.run_model.specs.Consistent.{clock, IsOrder, IsConsistent}
use Rattle.run_model.specs.Sublattice.{IsSublattice, Smallest}
use Rattle.run_model.specs.Slice.{Slice, Cuts, StandsFor}
use Rattle.run_model.specs.Formula.{Formula}
use Rattle.run_model.specs.Meaning.{Family}
use Rattle.run_model.specs.Witness.{WitnessOperator, ForEf, ForAg, ForEg, ExistsNext, first_event_of, Place, PathTo, Witness, Nothing, Reach, Against, Always, StuckStart, StuckFinish, StuckPair, FirstSteps, FirstStepsTo, IsPlace, IsBefore, IsFirst, row_at, Departs, Shares, AreTwo, IsCanonical}
use Rattle.run_model.specs.Witness as W
use Rattle.run_model.specs.Worked.{stable, run_with_watch, HasWitness}
use Rattle.run_model.proofs.Counts.{within_both, within_refl}
use Rattle.run_model.proofs.Orders.{has_process}
use Rattle.run_model.proofs.SliceLemmas.{stands_same, cuts_member, member_cuts}
use Rattle.meaning_laws.proofs.JoinLemmas.{smallest_of_closed}
use Rattle.meaning_laws.proofs.RegularLemmas.{regular_closed}
use Rattle.run_model.proofs.TraceLemmas.{run_of_order}
use Rattle.meaning_laws.proofs.WorkedLemmas.{is_regular_anyhow, regular_anyhow}
use Rattle.meaning_laws.proofs.WitnessLemmas.{canonical_same}
use Rattle.meaning_laws.proofs.Listing.{within, within_is, is_within, consistent, consistent_is, is_consistent, all_below, all_below_at, some_below, some_below_is, some_below_from, consistent_cuts, holds, holds_reads}
use Rattle.meaning_laws.proofs.ListedSlices.{all_events, all_events_at, ordered, ordered_is, least_listed, family, listed_slice, listed_stands}

-- ---- equal cuts and rows

abbrev pub cut_is : Cut → Cut → Bool
cut_is c d = eqb (length c) (length d) && (within c d && within d c)

cut_is_same : (c d : Cut) → cut_is c d ≡ true → c ≡ d
cut_is_same c d h =
    let first = and_parts (eqb (length c) (length d)) (within c d && within d c) h in
    let second = and_parts (within c d) (within d c) first.1 in
    within_both c d (eqb-true (length c) (length d) first.0) (within_is c d second.0) (within_is d c second.1)

same_cut_is : (c : Cut) → cut_is c c ≡ true
same_cut_is c = and_from (eqb (length c) (length c)) (within c c && within c c) (eq-eqb (length c) (length c) refl) (and_from (within c c) (within c c) (is_within c c (within_refl c)) (is_within c c (within_refl c)))

abbrev pub row_is : Option Cut → Option Cut → Bool
row_is None None = true
row_is None (Some k) = false
row_is (Some j) None = false
row_is (Some j) (Some k) = cut_is j k

row_is_same : (j k : Option Cut) → row_is j k ≡ true → j ≡ k
row_is_same None None h = refl
row_is_same None (Some k) h = absurd (false≢true h)
row_is_same (Some j) None h = absurd (false≢true h)
row_is_same (Some j) (Some k) h = ap Some (cut_is_same j k h)

same_row_is : (j k : Option Cut) → j ≡ k → row_is j k ≡ true
same_row_is j k e = subst (λ x. row_is j x ≡ true) e (itself j)
  where
    itself : (j : Option Cut) → row_is j j ≡ true
    itself None = refl
    itself (Some j) = same_cut_is j

-- ---- steps

abbrev pub first_steps : (Cut → Bool) → Cut → List Place → Cut → Bool
first_steps p c [] d = p c && cut_is c d
first_steps p c (e ∷ es) d =
    p c && (ltb e.process (length c) && (eqb e.position (count c e.process + 1) && (all_below (λ j. not (p (with_next c j))) e.process && first_steps p (with_next c e.process) es d)))

first_steps_is : (p : Cut → Bool) (A : Cut → Type 0) → ((c : Cut) → Decides (p c) (A c)) → (c : Cut) (es : List Place) (d : Cut) → first_steps p c es d ≡ true → FirstSteps A c es d
first_steps_is p A reads c [] d h = let both = and_parts (p c) (cut_is c d) h in ((reads c).0 both.0, cut_is_same c d both.1)
first_steps_is p A reads c (e ∷ es) d h =
    let rest = first_steps p (with_next c e.process) es d in
    let none = all_below (λ j. not (p (with_next c j))) e.process in
    let next = eqb e.position (count c e.process + 1) in
    let first = and_parts (p c) (ltb e.process (length c) && (next && (none && rest))) h in
    let second = and_parts (ltb e.process (length c)) (next && (none && rest)) first.1 in
    let third = and_parts next (none && rest) second.1 in
    let fourth = and_parts none rest third.1 in (
      (reads c).0 first.0,
      ltb-true e.process (length c) second.0,
      eqb-true e.position (count c e.process + 1) third.0,
      λ j l m. both_ways (p (with_next c j)) (not-true (p (with_next c j)) (all_below_at (λ j. not (p (with_next c j))) e.process j fourth.0 l)) ((reads (with_next c j)).1 m),
      first_steps_is p A reads (with_next c e.process) es d fourth.1,
    )

abbrev pub below : Clocks → Cut → Cut → Bool
below o goal c = consistent o c && within c goal

below_reads : (o : Clocks) (goal c : Cut) → Decides (below o goal c) (IsConsistent o c × IsWithin c goal)
below_reads o goal c = (
  λ h. let both = and_parts (consistent o c) (within c goal) h in (consistent_is o c both.0, within_is c goal both.1),
  λ k. and_from (consistent o c) (within c goal) (is_consistent o c k.0) (is_within c goal k.1),
)

-- ---- first events

abbrev pub is_before : ℕ → ℕ → Place → Bool
is_before i a e = ltb i e.process || (eqb i e.process && ltb a e.position)

before_is : (f e : Place) → IsBefore f e → is_before f.process f.position e ≡ true
before_is f e h = elim h [
  | inl l ↦ or_left (ltb f.process e.process) (eqb f.process e.process && ltb f.position e.position) (lt-ltb f.process e.process l)
  | inr k ↦ or_right (ltb f.process e.process) (eqb f.process e.process && ltb f.position e.position) (and_from (eqb f.process e.process) (ltb f.position e.position) (eq-eqb f.process e.process k.0) (lt-ltb f.position e.position k.1))
]

abbrev pub is_place : Clocks → Place → Bool
is_place o e = ltb 0 e.position && leb e.position (count (lengths o) e.process)

place_is : (o : Clocks) (e : Place) → is_place o e ≡ true → IsPlace o e
place_is o e h = let both = and_parts (ltb 0 e.position) (leb e.position (count (lengths o) e.process)) h in (ltb-true 0 e.position both.0, leb-true e.position (count (lengths o) e.process) both.1)

abbrev pub first_place : Clocks → (Place → Bool) → Place → Bool
first_place o p e = is_place o e && (p e && all_events (lengths o) (λ i a. not (is_before i a e) || not (p (record { process = i; position = a }))))

first_place_is : (o : Clocks) (p : Place → Bool) (P : Place → Type 0) → ((e : Place) → IsPlace o e → Decides (p e) (P e)) → (e : Place) → first_place o p e ≡ true → IsFirst o P e
first_place_is o p P reads e h =
    let none = all_events (lengths o) (λ i a. not (is_before i a e) || not (p (record { process = i; position = a }))) in
    let first = and_parts (is_place o e) (p e && none) h in
    let second = and_parts (p e) none first.1 in
    let there = place_is o e first.0 in
    record {
      there = there;
      has = (reads e there).0 second.0;
      first = λ f place before m. elim (or_cases (not (is_before f.process f.position e)) (not (p f)) (all_events_at (lengths o) (λ i a. not (is_before i a e) || not (p (record { process = i; position = a }))) second.1 f.process f.position place)) [
        | inl n ↦ both_ways (is_before f.process f.position e) (not-true (is_before f.process f.position e) n) (before_is f e before)
        | inr n ↦ both_ways (p f) (not-true (p f) n) ((reads f place).1 m)
      ];
    }

-- ---- what a first event has

abbrev pub departs : Clocks → Slice → Place → Bool
departs o s e = not (row_is (row_at s e) (Some (clock o e.process e.position)))

departs_reads : (o : Clocks) (s : Slice) (e : Place) → Decides (departs o s e) (Departs o s e)
departs_reads o s e =
    let past = Some (clock o e.process e.position) in (
      λ h q. both_ways (row_is (row_at s e) past) (not-true (row_is (row_at s e) past) h) (same_row_is (row_at s e) past q),
      λ n. not_from_false (row_is (row_at s e) past) (no_row (row_at s e) past (row_is (row_at s e) past) refl n),
    )
  where
    no_row : (j k : Option Cut) (b : Bool) → row_is j k ≡ b → (j ≡ k → ⊥) → b ≡ false
    no_row j k true e n = absurd (n (row_is_same j k e))
    no_row j k false e n = refl

abbrev pub shares : Slice → Place → Place → Bool
shares s e f = not (eqb e.process f.process && eqb e.position f.position) && row_is (row_at s f) (row_at s e)

two_reads : (e f : Place) → Decides (not (eqb e.process f.process && eqb e.position f.position)) (AreTwo e f)
two_reads e f = (
  λ h same. both_ways (eqb e.process f.process && eqb e.position f.position) (not-true (eqb e.process f.process && eqb e.position f.position) h) (and_from (eqb e.process f.process) (eqb e.position f.position) (eq-eqb e.process f.process same.0) (eq-eqb e.position f.position same.1)),
  λ n. not_from_false (eqb e.process f.process && eqb e.position f.position) (differ e f (eqb e.process f.process && eqb e.position f.position) refl n),
)
  where
    differ : (e f : Place) (b : Bool) → (eqb e.process f.process && eqb e.position f.position) ≡ b → AreTwo e f → b ≡ false
    differ e f true q n = let both = and_parts (eqb e.process f.process) (eqb e.position f.position) q in absurd (n (eqb-true e.process f.process both.0, eqb-true e.position f.position both.1))
    differ e f false q n = refl

shares_reads : (s : Slice) (e f : Place) → Decides (shares s e f) (Shares s e f)
shares_reads s e f = (
  λ h. let both = and_parts (not (eqb e.process f.process && eqb e.position f.position)) (row_is (row_at s f) (row_at s e)) h in ((two_reads e f).0 both.0, row_is_same (row_at s f) (row_at s e) both.1),
  λ k. and_from (not (eqb e.process f.process && eqb e.position f.position)) (row_is (row_at s f) (row_at s e)) ((two_reads e f).1 k.0) (same_row_is (row_at s f) (row_at s e) k.1),
)

abbrev pub some_event : Cut → (Place → Bool) → Bool
some_event c p = some_below (λ i. some_below (λ a. p (record { process = i; position = a + 1 })) (count c i)) (length c)

abbrev pub is_sharing : Clocks → Slice → Place → Bool
is_sharing o s e = some_event (lengths o) (shares s e)

sharing_reads : (o : Clocks) (s : Slice) (e : Place) → Decides (is_sharing o s e) ((f : Place) × IsPlace o f × Shares s e f)
sharing_reads o s e = (
  λ h.
      let i = some_below_is (λ i. some_below (λ a. shares s e (record { process = i; position = a + 1 })) (count (lengths o) i)) (length (lengths o)) h in
      let a = some_below_is (λ a. shares s e (record { process = i.0; position = a + 1 })) (count (lengths o) i.0) i.2 in
      let f : Place = record { process = i.0; position = a.0 + 1 } in
      (f, (omega arith, omega (arith, a.1)), (shares_reads s e f).0 a.2),
  λ w.
      let i = w.0.process in
      let a = w.0.position in
      let shared : shares s e (record { process = i; position = (a - 1) + 1 }) ≡ true = subst (λ x. shares s e (record { process = i; position = x }) ≡ true) (omega (arith, w.1.0)) ((shares_reads s e w.0).1 w.2) in
      some_below_from (λ i. some_below (λ a. shares s e (record { process = i; position = a + 1 })) (count (lengths o) i)) (length (lengths o)) i (has_process (lengths o) i a w.1)
      (some_below_from (λ a. shares s e (record { process = i; position = a + 1 })) (count (lengths o) i) (a - 1) (omega (arith, w.1.0, w.1.1)) shared),
)

-- ---- the listed slice of a regular operand

record Operand (trace : Trace) (f : Formula) : Type 0 where
  order : IsOrder (clocks_of trace)
  closed : IsSublattice (clocks_of trace) (Family (run_with_watch trace) f)
  stands : StandsFor (clocks_of trace) (listed_slice (run_with_watch trace) f) (Family (run_with_watch trace) f)

operand : (trace : Trace) (f : Formula) → ordered (clocks_of trace) ≡ true → is_regular_anyhow f ≡ true → Operand trace f
operand trace f o k =
    let order = ordered_is (clocks_of trace) o in
    let closed = regular_closed (run_with_watch trace) (run_of_order trace (λ name states. stable states) order) f (regular_anyhow (run_with_watch trace) f k) in
    record {
      order = order;
      closed = closed;
      stands = stands_same (clocks_of trace) (listed_slice (run_with_watch trace) f) (Smallest (Family (run_with_watch trace) f)) (Family (run_with_watch trace) f) (smallest_of_closed (clocks_of trace) (Family (run_with_watch trace) f) closed) (listed_stands (run_with_watch trace) order f);
    }

abbrev pub member : Trace → Formula → Cut → Bool
member trace f c = consistent (clocks_of trace) c && holds (run_with_watch trace) (consistent_cuts (clocks_of trace)) f c

member_reads : (trace : Trace) (f : Formula) → Operand trace f → (c : Cut) → Decides (member trace f c) (Cuts (clocks_of trace) (listed_slice (run_with_watch trace) f) c)
member_reads trace f k c =
    let o = clocks_of trace in
    let r = run_with_watch trace in (
      λ h.
          let both = and_parts (consistent o c) (holds r (consistent_cuts o) f c) h in
          let l = consistent_is o c both.0 in
          member_cuts o (Family r f) k.closed (listed_slice r f) k.stands c (l, (holds_reads r k.order f c l).0 both.1),
      λ m.
          let w = cuts_member o (Family r f) k.closed (listed_slice r f) k.stands c m in
          and_from (consistent o c) (holds r (consistent_cuts o) f c) (is_consistent o c w.0) ((holds_reads r k.order f c w.0).1 w.1),
    )

for_each_slice : (trace : Trace) (f : Formula) → Operand trace f → (operator : WitnessOperator) (w : Witness) → IsCanonical (clocks_of trace) (listed_slice (run_with_watch trace) f) operator w → HasWitness trace operator f w
for_each_slice trace f k operator w canonical s stands = canonical_same (clocks_of trace) (Family (run_with_watch trace) f) k.closed (listed_slice (run_with_watch trace) f) s k.stands stands operator w canonical

-- ---- the kinds

pub reaches_by_listing : (trace : Trace) (f : Formula) (path : PathTo) → ordered (clocks_of trace) ≡ true → is_regular_anyhow f ≡ true → least_listed (family (run_with_watch trace) f) ≡ Some path.goal → first_steps (below (clocks_of trace) path.goal) (initial (clocks_of trace)) path.steps path.goal ≡ true → HasWitness trace ForEf f (Reach path)
reaches_by_listing trace f path o k least steps = for_each_slice trace f (operand trace f o k) ForEf (Reach path) (W.IsCanonical.reaches least
    (first_steps_is (below (clocks_of trace) path.goal) (λ c. IsConsistent (clocks_of trace) c × IsWithin c path.goal) (below_reads (clocks_of trace) path.goal) (initial (clocks_of trace)) path.steps path.goal steps))

pub never_by_listing : (trace : Trace) (f : Formula) → ordered (clocks_of trace) ≡ true → is_regular_anyhow f ≡ true → least_listed (family (run_with_watch trace) f) ≡ None → HasWitness trace ForEf f Nothing
never_by_listing trace f o k none = for_each_slice trace f (operand trace f o k) ForEf Nothing (W.IsCanonical.never none)

pub refuted_by_listing : (trace : Trace) (f : Formula) (path : PathTo) (e : Place) → ordered (clocks_of trace) ≡ true → is_regular_anyhow f ≡ true → member trace f (initial (clocks_of trace)) ≡ true
    → first_place (clocks_of trace) (departs (clocks_of trace) (listed_slice (run_with_watch trace) f)) e ≡ true → path.goal ≡ clock (clocks_of trace) e.process e.position
    → first_steps (below (clocks_of trace) path.goal) (initial (clocks_of trace)) path.steps path.goal ≡ true → HasWitness trace ForAg f (Against path)
refuted_by_listing trace f path e o k start first goal steps =
    let op = operand trace f o k in
    for_each_slice trace f op ForAg (Against path) (W.IsCanonical.refuted {e = e}
    ((member_reads trace f op (initial (clocks_of trace))).0 start)
    (first_place_is (clocks_of trace) (departs (clocks_of trace) (listed_slice (run_with_watch trace) f)) (Departs (clocks_of trace) (listed_slice (run_with_watch trace) f)) (λ e there. departs_reads (clocks_of trace) (listed_slice (run_with_watch trace) f) e) e first)
    goal
    (first_steps_is (below (clocks_of trace) path.goal) (λ c. IsConsistent (clocks_of trace) c × IsWithin c path.goal) (below_reads (clocks_of trace) path.goal) (initial (clocks_of trace)) path.steps path.goal steps))

pub each_time_by_listing : (trace : Trace) (f : Formula) → ordered (clocks_of trace) ≡ true → is_regular_anyhow f ≡ true → member trace f (initial (clocks_of trace)) ≡ true
    → all_events (lengths (clocks_of trace)) (λ i a. row_is ((listed_slice (run_with_watch trace) f).row i a) (Some (clock (clocks_of trace) i a))) ≡ true → HasWitness trace ForAg f Nothing
each_time_by_listing trace f o k start rows =
    let op = operand trace f o k in
    for_each_slice trace f op ForAg Nothing (W.IsCanonical.each_time ((member_reads trace f op (initial (clocks_of trace))).0 start)
    (λ e there. row_is_same (row_at (listed_slice (run_with_watch trace) f) e) (Some (clock (clocks_of trace) e.process e.position)) (all_events_at (lengths (clocks_of trace)) (λ i a. row_is ((listed_slice (run_with_watch trace) f).row i a) (Some (clock (clocks_of trace) i a))) rows e.process e.position there)))

pub stays_by_listing : (trace : Trace) (f : Formula) (path : PathTo) → ordered (clocks_of trace) ≡ true → is_regular_anyhow f ≡ true → path.goal ≡ lengths (clocks_of trace) → first_steps (member trace f) (initial (clocks_of trace)) path.steps path.goal ≡ true → HasWitness trace ForEg f (Always path)
stays_by_listing trace f path o k goal steps =
    let op = operand trace f o k in
    for_each_slice trace f op ForEg (Always path) (W.IsCanonical.stays goal
    (first_steps_is (member trace f) (Cuts (clocks_of trace) (listed_slice (run_with_watch trace) f)) (member_reads trace f op) (initial (clocks_of trace)) path.steps path.goal steps))

pub finish_by_listing : (trace : Trace) (f : Formula) → ordered (clocks_of trace) ≡ true → is_regular_anyhow f ≡ true → member trace f (initial (clocks_of trace)) ≡ true → member trace f (lengths (clocks_of trace)) ≡ false → HasWitness trace ForEg f StuckFinish
finish_by_listing trace f o k start finish =
    let op = operand trace f o k in
    for_each_slice trace f op ForEg StuckFinish (W.IsCanonical.false_at_finish ((member_reads trace f op (initial (clocks_of trace))).0 start)
    (λ m. both_ways (member trace f (lengths (clocks_of trace))) finish ((member_reads trace f op (lengths (clocks_of trace))).1 m)))

pub pair_by_listing : (trace : Trace) (f : Formula) (first other : Place) → ordered (clocks_of trace) ≡ true → is_regular_anyhow f ≡ true → member trace f (initial (clocks_of trace)) ≡ true → member trace f (lengths (clocks_of trace)) ≡ true
    → first_place (clocks_of trace) (is_sharing (clocks_of trace) (listed_slice (run_with_watch trace) f)) first ≡ true
    → first_place (clocks_of trace) (shares (listed_slice (run_with_watch trace) f) first) other ≡ true → HasWitness trace ForEg f (StuckPair first other)
pair_by_listing trace f first other o k start finish p q =
    let op = operand trace f o k in
    let s = listed_slice (run_with_watch trace) f in
    for_each_slice trace f op ForEg (StuckPair first other) (W.IsCanonical.come_together
    ((member_reads trace f op (initial (clocks_of trace))).0 start)
    ((member_reads trace f op (lengths (clocks_of trace))).0 finish)
    (first_place_is (clocks_of trace) (is_sharing (clocks_of trace) s) (λ e. (f : Place) × IsPlace (clocks_of trace) f × Shares s e f) (λ e there. sharing_reads (clocks_of trace) s e) first p)
    (first_place_is (clocks_of trace) (shares s first) (Shares s first) (λ e there. shares_reads s first e) other q))

pub next_by_listing : (trace : Trace) (f : Formula) (i : ℕ) → ordered (clocks_of trace) ≡ true → is_regular_anyhow f ≡ true → ltb i (length (clocks_of trace)) ≡ true → member trace f (with_next (initial (clocks_of trace)) i) ≡ true → HasWitness trace (ExistsNext i) f (Reach (first_event_of (clocks_of trace) i))
next_by_listing trace f i o k there holds =
    let op = operand trace f o k in
    for_each_slice trace f op (ExistsNext i) (Reach (first_event_of (clocks_of trace) i)) (W.IsCanonical.reaches_next
    (ltb-true i (length (clocks_of trace)) there, (member_reads trace f op (with_next (initial (clocks_of trace)) i)).0 holds))

pub never_next_by_listing : (trace : Trace) (f : Formula) (i : ℕ) → ordered (clocks_of trace) ≡ true → is_regular_anyhow f ≡ true → member trace f (with_next (initial (clocks_of trace)) i) ≡ false → HasWitness trace (ExistsNext i) f Nothing
never_next_by_listing trace f i o k fails =
    let op = operand trace f o k in
    for_each_slice trace f op (ExistsNext i) Nothing (W.IsCanonical.never_next
    (λ first. both_ways (member trace f (with_next (initial (clocks_of trace)) i)) fails ((member_reads trace f op (with_next (initial (clocks_of trace)) i)).1 first.1)))
