-- The slices of what EF, AG and EG make of a closed set.
use Rattle.std.proofs.Common.{ℕ, leb, Option, Some, None, option_map, sym, subst, arith, le_trans}
use Rattle.std.proofs.lemmas.Bool.{cond_both, leb-true, leb-false}
use Rattle.run_model.specs.Cut.{Cut, Clocks, count, IsWithin, max_cut, lengths}
use Rattle.run_model.specs.Consistent.{IsOrder, IsConsistent}
use Rattle.run_model.specs.Sublattice.{IsSublattice, IsLeast, IsGreatest, Having}
use Rattle.run_model.specs.Slice.{Slice, IsLeastOf, StandsFor}
use Rattle.run_model.specs.Operators.{EfHolds, AgHolds, EgHolds, AgHoldsByRows, HasPairs, whole, nowhere, lowered, raised}
use Rattle.run_model.proofs.Counts.{within_refl, max_within, max_left, max_right}
use Rattle.run_model.proofs.Orders.{past_least, initial_least, max_consistent}
use Rattle.run_model.proofs.SliceLemmas.{least_of_member, stands_same}
use Rattle.meaning_laws.proofs.OperatorLemmas.{some_time_within, each_time_by_rows, each_time_final, holds_up, staying_by_rows, staying_last}

pub nowhere_stands : (o : Clocks) (A : Cut → Type 0) → ((c : Cut) → A c → ⊥) → StandsFor o nowhere A
nowhere_stands o A none = record { bottom = none; rows = λ i a ev c h. none c h.0 }

pub whole_stands : (o : Clocks) → IsOrder o → StandsFor o (whole o) (IsConsistent o)
whole_stands o order = record { bottom = initial_least o; rows = λ i a ev. past_least o order i a ev }

-- the members within a member t
pub lowered_stands : (o : Clocks) (s : Slice) (A : Cut → Type 0) (t : Cut) → StandsFor o s A → A t → StandsFor o (lowered s t) (λ c. A c × IsWithin c t)
lowered_stands o s A t stands member =
    let b = least_of_member A s.bottom t stands.bottom member in
    record {
      bottom = subst (IsLeastOf (λ c. A c × IsWithin c t)) (sym b.1) (record { member = (b.2.member, b.3); least = λ c h. b.2.least c h.0 });
      rows = λ i a ev. cond_both (leb a (count t i)) (s.row i a) None (IsLeastOf (Having (λ c. A c × IsWithin c t) i a))
          (λ yes'. let r = least_of_member (Having A i a) (s.row i a) t (stands.rows i a ev) (member, leb-true a (count t i) yes') in
          subst (IsLeastOf (Having (λ c. A c × IsWithin c t) i a)) (sym r.1) (record { member = ((r.2.member.0, r.3), r.2.member.1); least = λ c h. r.2.least c (h.0.0, h.1) }))
          (λ no'. λ c h. absurd (omega (arith, leb-false a (count t i) no', h.0.1 i, h.1)));
    }

raised_row : (A : Cut → Type 0) (b : Cut) → ((c d : Cut) → A c → A d → A (max_cut c d)) → A b → (i a : ℕ) (k : Option Cut) → IsLeastOf (Having A i a) k → IsLeastOf (Having (λ c. A c × IsWithin b c) i a) (option_map (max_cut b) k)
raised_row A b has_max member i a None l = λ c h. l c (h.0.0, h.1)
raised_row A b has_max member i a (Some r) l = record {
  member = ((has_max b r member l.member.0, max_left b r), le_trans l.member.1 (max_right b r i));
  least = λ c h. max_within b r c h.0.1 (l.least c (h.0.0, h.1));
}

-- the members that hold a member b
pub raised_stands : (o : Clocks) (s : Slice) (A : Cut → Type 0) (b : Cut) → ((c d : Cut) → A c → A d → A (max_cut c d)) → StandsFor o s A → A b → StandsFor o (raised s b) (λ c. A c × IsWithin b c)
raised_stands o s A b has_max stands member = record {
  bottom = record { member = (member, within_refl b); least = λ c h. h.1 };
  rows = λ i a ev. raised_row A b has_max member i a (s.row i a) (stands.rows i a ev);
}

-- ---- EF

pub some_time_slice : (o : Clocks) → IsOrder o → (A : Cut → Type 0) → ((c : Cut) → A c → IsConsistent o c) → (t : Cut) → IsGreatest A t → StandsFor o (lowered (whole o) t) (λ c. IsConsistent o c × EfHolds o A c)
some_time_slice o order A consistent t top = stands_same o (lowered (whole o) t) (λ c. IsConsistent o c × IsWithin c t) (λ c. IsConsistent o c × EfHolds o A c)
    (λ c. (λ h. (h.0, (some_time_within o order A consistent t top c h.0).1 h.1), λ h. (h.0, (some_time_within o order A consistent t top c h.0).0 h.1)))
    (lowered_stands o (whole o) (IsConsistent o) t (whole_stands o order) (consistent t top.member))

pub some_time_nowhere : (o : Clocks) (A : Cut → Type 0) → ((c : Cut) → A c → ⊥) → StandsFor o nowhere (λ c. IsConsistent o c × EfHolds o A c)
some_time_nowhere o A none = nowhere_stands o (λ c. IsConsistent o c × EfHolds o A c) (λ c h. none h.1.1 h.1.3)

-- ---- AG

pub each_time_slice : (o : Clocks) → IsOrder o → (A : Cut → Type 0) → IsSublattice o A → (s : Slice) → StandsFor o s A → (b : Cut) → IsLeast (λ c. IsConsistent o c × AgHoldsByRows o s c) b → StandsFor o (raised (whole o) b) (λ c. IsConsistent o c × AgHolds o A c)
each_time_slice o order A closed s stands b least = stands_same o (raised (whole o) b) (λ c. IsConsistent o c × IsWithin b c) (λ c. IsConsistent o c × AgHolds o A c)
    (λ c. (
      λ h. (h.0, (each_time_by_rows o order A closed s stands c h.0).1 (holds_up o s b c h.1 least.member.1)),
      λ h. (h.0, least.least c (h.0, (each_time_by_rows o order A closed s stands c h.0).0 h.1)),
    ))
    (raised_stands o (whole o) (IsConsistent o) b (max_consistent o order) (whole_stands o order) least.member.0)

pub each_time_nowhere : (o : Clocks) → IsOrder o → (A : Cut → Type 0) → (A (lengths o) → ⊥) → StandsFor o nowhere (λ c. IsConsistent o c × AgHolds o A c)
each_time_nowhere o order A none = nowhere_stands o (λ c. IsConsistent o c × AgHolds o A c) (λ c h. none (each_time_final o order A c h.0 h.1))

-- ---- EG

pub staying_slice : (o : Clocks) (A : Cut → Type 0) → IsSublattice o A → (s : Slice) → StandsFor o s A → A (lengths o) → (b : Cut) → IsLeast (λ c. A c × HasPairs o s c) b → StandsFor o (raised s b) (λ c. IsConsistent o c × EgHolds o A c)
staying_slice o A closed s stands final b least = stands_same o (raised s b) (λ c. A c × IsWithin b c) (λ c. IsConsistent o c × EgHolds o A c)
    (λ c. (
      λ h. (closed.consistent c h.0, (staying_by_rows o A closed s stands final c).1 (h.0, λ i a j d ev fv same differ. le_trans (least.member.1 i a j d ev fv same differ) (h.1 i))),
      λ h. let w = (staying_by_rows o A closed s stands final c).0 h.1 in (w.0, least.least c w),
    ))
    (raised_stands o s A b closed.has_max stands least.member.0)

pub staying_nowhere : (o : Clocks) (A : Cut → Type 0) → (A (lengths o) → ⊥) → StandsFor o nowhere (λ c. IsConsistent o c × EgHolds o A c)
staying_nowhere o A none = nowhere_stands o (λ c. IsConsistent o c × EgHolds o A c) (λ c h. none (staying_last o A c h.1))
