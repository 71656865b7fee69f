-- The smallest sublattice round a set: by induction, by its slice, and by lists.
use Rattle.std.proofs.Common.{◌≡◌, ℕ, ◌≤◌, ◌↔◌, List, [], ◌∷◌, ◌++◌, Option, Some, None, sym, ap, ◌∙◌, subst, refl, inl, inr, arith, zero-le}
use Rattle.std.proofs.lemmas.Bool.{cases_lt}
use Rattle.run_model.specs.Cut.{Cut, Clocks, count, min_cut, max_cut}
use Rattle.run_model.specs.Consistent.{IsOrder, IsConsistent}
use Rattle.run_model.specs.Sublattice.{IsSublattice, Having, Either, Smallest, given, minimum, maximum, AllIn, min_of, max_of, IsMinOf, IsMaxOfMins}
use Rattle.run_model.specs.Slice.{Slice, HasWithin, IsLeastOf, StandsFor}
use Rattle.run_model.specs.Operators.{min_row, joined}
use Rattle.run_model.proofs.Counts.{count-min, count-max, length-min, length-max, same_counts, within_trans, min_left, min_right, max_left, max_right}
use Rattle.run_model.proofs.Orders.{min_consistent, max_consistent}
use Rattle.run_model.proofs.SliceLemmas.{least_within, least_same, has_within_up, has_within_min}

-- what holds of the set and is kept by minimum and maximum holds of the smallest sublattice
pub smallest_in : (A P : Cut → Type 0) → ((c : Cut) → A c → P c) → ((c d : Cut) → P c → P d → P (min_cut c d)) → ((c d : Cut) → P c → P d → P (max_cut c d)) → (c : Cut) → Smallest A c → P c
smallest_in A P base has_min has_max c (given h) = base c h
smallest_in A P base has_min has_max c (minimum {c = x} {d = y} h k) = has_min x y (smallest_in A P base has_min has_max x h) (smallest_in A P base has_min has_max y k)
smallest_in A P base has_min has_max c (maximum {c = x} {d = y} h k) = has_max x y (smallest_in A P base has_min has_max x h) (smallest_in A P base has_min has_max y k)

pub smallest_closed : (o : Clocks) → IsOrder o → (A : Cut → Type 0) → ((c : Cut) → A c → IsConsistent o c) → IsSublattice o (Smallest A)
smallest_closed o order A consistent = record {
  consistent = smallest_in A (IsConsistent o) consistent (min_consistent o order) (max_consistent o order);
  has_min = λ c d h k. minimum h k;
  has_max = λ c d h k. maximum h k;
}

pub smallest_least : (o : Clocks) (A B : Cut → Type 0) → IsSublattice o B → ((c : Cut) → A c → B c) → (c : Cut) → Smallest A c → B c
smallest_least o A B closed h = smallest_in A B h closed.has_min closed.has_max

pub smallest_of_closed : (o : Clocks) (A : Cut → Type 0) → IsSublattice o A → (c : Cut) → Smallest A c ↔ A c
smallest_of_closed o A closed c = (smallest_least o A A closed (λ x h. h) c, λ h. given h)

pub smallest_wider : (A B : Cut → Type 0) → ((c : Cut) → A c → Smallest B c) → (c : Cut) → Smallest A c → Smallest B c
smallest_wider A B h = smallest_in A (Smallest B) h (λ c d p q. minimum p q) (λ c d p q. maximum p q)

-- ---- the joined slice

row_left : (j k : Option Cut) (c : Cut) → HasWithin j c → HasWithin (min_row j k) c
row_left None k c h = absurd h
row_left (Some j) None c h = h
row_left (Some j) (Some k) c h = within_trans (min_cut j k) j c (min_left j k) h

row_right : (j k : Option Cut) (c : Cut) → HasWithin k c → HasWithin (min_row j k) c
row_right None k c h = h
row_right (Some j) None c h = absurd h
row_right (Some j) (Some k) c h = within_trans (min_cut j k) k c (min_right j k) h

-- each member of the smallest sublattice with the event holds the joined row
joined_least : (A B : Cut → Type 0) (i a : ℕ) (j k : Option Cut) → IsLeastOf (Having A i a) j → IsLeastOf (Having B i a) k → (c : Cut) → Smallest (Either A B) c → a ≤ count c i → HasWithin (min_row j k) c
joined_least A B i a j k l m = smallest_in (Either A B) (λ c. a ≤ count c i → HasWithin (min_row j k) c)
    (λ c h has. elim h [
      | inl p ↦ row_left j k c (least_within (Having A i a) j c l (p, has))
      | inr q ↦ row_right j k c (least_within (Having B i a) k c m (q, has))
    ])
    (λ c d p q has. has_within_min (min_row j k) c d (p (omega (arith, has, count-min c d i))) (q (omega (arith, has, count-min c d i))))
    (λ c d p q has. elim (cases_lt (count c i) (count d i)) [
      | inl h ↦ has_within_up (min_row j k) d (max_cut c d) (max_right c d) (q (omega (arith, has, h, count-max c d i)))
      | inr h ↦ has_within_up (min_row j k) c (max_cut c d) (max_left c d) (p (omega (arith, has, h, count-max c d i)))
    ])

joined_member : (A B : Cut → Type 0) (i a : ℕ) (j k : Option Cut) → IsLeastOf (Having A i a) j → IsLeastOf (Having B i a) k → ((c : Cut) → Having (Smallest (Either A B)) i a c → HasWithin (min_row j k) c) → IsLeastOf (Having (Smallest (Either A B)) i a) (min_row j k)
joined_member A B i a None None l m least = least
joined_member A B i a None (Some k) l m least = record { member = (given (inr m.member.0), m.member.1); least = least }
joined_member A B i a (Some j) None l m least = record { member = (given (inl l.member.0), l.member.1); least = least }
joined_member A B i a (Some j) (Some k) l m least = record {
  member = (minimum (given (inl l.member.0)) (given (inr m.member.0)), omega (arith, count-min j k i, l.member.1, m.member.1));
  least = least;
}

joined_row : (A B : Cut → Type 0) (i a : ℕ) (j k : Option Cut) → IsLeastOf (Having A i a) j → IsLeastOf (Having B i a) k → IsLeastOf (Having (Smallest (Either A B)) i a) (min_row j k)
joined_row A B i a j k l m = joined_member A B i a j k l m (λ c h. joined_least A B i a j k l m c h.0 h.1)

-- every cut has event 0
having_none : (A : Cut → Type 0) (c : Cut) → A c ↔ Having A 0 0 c
having_none A c = (λ h. (h, zero-le), λ h. h.0)

pub joined_stands : (o : Clocks) (s t : Slice) (A B : Cut → Type 0) → StandsFor o s A → StandsFor o t B → StandsFor o (joined s t) (Smallest (Either A B))
joined_stands o s t A B k l = record {
  bottom = least_same (Having (Smallest (Either A B)) 0 0) (Smallest (Either A B)) (λ c. ((having_none (Smallest (Either A B)) c).1, (having_none (Smallest (Either A B)) c).0)) (min_row s.bottom t.bottom)
      (joined_row A B 0 0 s.bottom t.bottom (least_same A (Having A 0 0) (having_none A) s.bottom k.bottom) (least_same B (Having B 0 0) (having_none B) t.bottom l.bottom));
  rows = λ i a ev. joined_row A B i a (s.row i a) (t.row i a) (k.rows i a ev) (l.rows i a ev);
}

-- the grouping of unions says nothing
pub smallest_grouped : (A B C : Cut → Type 0) → (c : Cut) → Smallest (Either (Smallest (Either A B)) C) c ↔ Smallest (Either A (Smallest (Either B C))) c
smallest_grouped A B C c = (
  smallest_wider (Either (Smallest (Either A B)) C) (Either A (Smallest (Either B C))) (λ x h. elim h [
    | inl p ↦ smallest_wider (Either A B) (Either A (Smallest (Either B C))) (λ y q. elim q [ inl u ↦ given (inl u) | inr v ↦ given (inr (given (inl v))) ]) x p
    | inr q ↦ given (inr (given (inr q)))
  ]) c,
  smallest_wider (Either A (Smallest (Either B C))) (Either (Smallest (Either A B)) C) (λ x h. elim h [
    | inl p ↦ given (inl (given (inl p)))
    | inr q ↦ smallest_wider (Either B C) (Either (Smallest (Either A B)) C) (λ y r. elim r [ inl u ↦ given (inl (given (inr u))) | inr v ↦ given (inr v) ]) x q
  ]) c,
)

-- the minimum of rows in another grouping is the same row
pub joined_grouped : (j k l : Option Cut) → min_row (min_row j k) l ≡ min_row j (min_row k l)
joined_grouped None k l = refl
joined_grouped (Some j) None l = refl
joined_grouped (Some j) (Some k) None = refl
joined_grouped (Some j) (Some k) (Some l) = ap Some (same_counts (min_cut (min_cut j k) l) (min_cut j (min_cut k l))
    (omega (arith, length-min (min_cut j k) l, length-min j k, length-min j (min_cut k l), length-min k l))
    (λ i. omega (arith, count-min (min_cut j k) l i, count-min j k i, count-min j (min_cut k l) i, count-min k l i)))

-- ---- as lists

pub all_joined : (A : Cut → Type 0) (c : Cut) (cs : List Cut) (d : Cut) (ds : List Cut) → AllIn A c cs → AllIn A d ds → AllIn A c (cs ++ d ∷ ds)
all_joined A c [] d ds h k = (h, k)
all_joined A c (x ∷ cs) d ds h k = (h.0, all_joined A x cs d ds h.1 k)

pub min_grouped : (c d e : Cut) → min_cut (min_cut c d) e ≡ min_cut c (min_cut d e)
min_grouped c d e = same_counts (min_cut (min_cut c d) e) (min_cut c (min_cut d e))
    (omega (arith, length-min (min_cut c d) e, length-min c d, length-min c (min_cut d e), length-min d e))
    (λ i. omega (arith, count-min (min_cut c d) e i, count-min c d i, count-min c (min_cut d e) i, count-min d e i))

pub max_grouped : (c d e : Cut) → max_cut (max_cut c d) e ≡ max_cut c (max_cut d e)
max_grouped c d e = same_counts (max_cut (max_cut c d) e) (max_cut c (max_cut d e))
    (omega (arith, length-max (max_cut c d) e, length-max c d, length-max c (max_cut d e), length-max d e))
    (λ i. omega (arith, count-max (max_cut c d) e i, count-max c d i, count-max c (max_cut d e) i, count-max d e i))

min_of_joined : (c : Cut) (cs : List Cut) (d : Cut) (ds : List Cut) → min_of c (cs ++ d ∷ ds) ≡ min_cut (min_of c cs) (min_of d ds)
min_of_joined c [] d ds = refl
min_of_joined c (x ∷ cs) d ds = ap (min_cut c) (min_of_joined x cs d ds) ∙ sym (min_grouped c (min_of x cs) (min_of d ds))

max_of_joined : (c : Cut) (cs : List Cut) (d : Cut) (ds : List Cut) → max_of c (cs ++ d ∷ ds) ≡ max_cut (max_of c cs) (max_of d ds)
max_of_joined c [] d ds = refl
max_of_joined c (x ∷ cs) d ds = ap (max_cut c) (max_of_joined x cs d ds) ∙ sym (max_grouped c (max_of x cs) (max_of d ds))

mins_min : (A : Cut → Type 0) (c d : Cut) → IsMinOf A c → IsMinOf A d → IsMinOf A (min_cut c d)
mins_min A c d h k = (h.0, h.1 ++ k.0 ∷ k.1, all_joined A h.0 h.1 k.0 k.1 h.2 k.2, subst (λ x. min_cut x d ≡ min_of h.0 (h.1 ++ k.0 ∷ k.1)) (sym h.3) (subst (λ x. min_cut (min_of h.0 h.1) x ≡ min_of h.0 (h.1 ++ k.0 ∷ k.1)) (sym k.3) (sym (min_of_joined h.0 h.1 k.0 k.1))))

maxes_max : (A : Cut → Type 0) (c d : Cut) → IsMaxOfMins A c → IsMaxOfMins A d → IsMaxOfMins A (max_cut c d)
maxes_max A c d h k = (h.0, h.1 ++ k.0 ∷ k.1, all_joined (IsMinOf A) h.0 h.1 k.0 k.1 h.2 k.2, subst (λ x. max_cut x d ≡ max_of h.0 (h.1 ++ k.0 ∷ k.1)) (sym h.3) (subst (λ x. max_cut (max_of h.0 h.1) x ≡ max_of h.0 (h.1 ++ k.0 ∷ k.1)) (sym k.3) (sym (max_of_joined h.0 h.1 k.0 k.1))))

min_over_max : (c d e : Cut) → min_cut c (max_cut d e) ≡ max_cut (min_cut c d) (min_cut c e)
min_over_max c d e = same_counts (min_cut c (max_cut d e)) (max_cut (min_cut c d) (min_cut c e))
    (omega (arith, length-min c (max_cut d e), length-max d e, length-max (min_cut c d) (min_cut c e), length-min c d, length-min c e))
    (λ i. omega (arith, count-min c (max_cut d e) i, count-max d e i, count-max (min_cut c d) (min_cut c e) i, count-min c d i, count-min c e i))

max_under_min : (d e c : Cut) → min_cut (max_cut d e) c ≡ max_cut (min_cut d c) (min_cut e c)
max_under_min d e c = same_counts (min_cut (max_cut d e) c) (max_cut (min_cut d c) (min_cut e c))
    (omega (arith, length-min (max_cut d e) c, length-max d e, length-max (min_cut d c) (min_cut e c), length-min d c, length-min e c))
    (λ i. omega (arith, count-min (max_cut d e) c i, count-max d e i, count-max (min_cut d c) (min_cut e c) i, count-min d c i, count-min e c i))

one_min : (A : Cut → Type 0) (c : Cut) → IsMinOf A c → IsMaxOfMins A c
one_min A c h = (c, [], h, refl)

min_with_max : (A : Cut → Type 0) (c d : Cut) (ds : List Cut) → IsMinOf A c → AllIn (IsMinOf A) d ds → IsMaxOfMins A (min_cut c (max_of d ds))
min_with_max A c d [] h k = one_min A (min_cut c d) (mins_min A c d h k)
min_with_max A c d (e ∷ ds) h k = subst (IsMaxOfMins A) (sym (min_over_max c d (max_of e ds)))
    (maxes_max A (min_cut c d) (min_cut c (max_of e ds)) (one_min A (min_cut c d) (mins_min A c d h k.0)) (min_with_max A c e ds h k.1))

max_with_max : (A : Cut → Type 0) (c : Cut) (cs : List Cut) (d : Cut) (ds : List Cut) → AllIn (IsMinOf A) c cs → AllIn (IsMinOf A) d ds → IsMaxOfMins A (min_cut (max_of c cs) (max_of d ds))
max_with_max A c [] d ds h k = min_with_max A c d ds h k
max_with_max A c (e ∷ cs) d ds h k = subst (IsMaxOfMins A) (sym (max_under_min c (max_of e cs) (max_of d ds)))
    (maxes_max A (min_cut c (max_of d ds)) (min_cut (max_of e cs) (max_of d ds)) (min_with_max A c d ds h.0 k) (max_with_max A e cs d ds h.1 k))

maxes_min : (A : Cut → Type 0) (c d : Cut) → IsMaxOfMins A c → IsMaxOfMins A d → IsMaxOfMins A (min_cut c d)
maxes_min A c d h k = subst (λ x. IsMaxOfMins A (min_cut x d)) (sym h.3) (subst (λ x. IsMaxOfMins A (min_cut (max_of h.0 h.1) x)) (sym k.3) (max_with_max A h.0 h.1 k.0 k.1 h.2 k.2))

min_of_smallest : (A : Cut → Type 0) (c : Cut) (cs : List Cut) → AllIn A c cs → Smallest A (min_of c cs)
min_of_smallest A c [] h = given h
min_of_smallest A c (d ∷ cs) h = minimum (given h.0) (min_of_smallest A d cs h.1)

is_min_smallest : (A : Cut → Type 0) (c : Cut) → IsMinOf A c → Smallest A c
is_min_smallest A c h = subst (Smallest A) (sym h.3) (min_of_smallest A h.0 h.1 h.2)

max_of_smallest : (A : Cut → Type 0) (c : Cut) (cs : List Cut) → AllIn (IsMinOf A) c cs → Smallest A (max_of c cs)
max_of_smallest A c [] h = is_min_smallest A c h
max_of_smallest A c (d ∷ cs) h = maximum (is_min_smallest A c h.0) (max_of_smallest A d cs h.1)

-- the smallest sublattice is the set of the maxima of minima of members
pub smallest_lists : (A : Cut → Type 0) (c : Cut) → Smallest A c ↔ IsMaxOfMins A c
smallest_lists A c = (
  smallest_in A (IsMaxOfMins A) (λ x h. one_min A x (x, [], h, refl)) (maxes_min A) (maxes_max A) c,
  λ h. subst (Smallest A) (sym h.3) (max_of_smallest A h.0 h.1 h.2),
)
