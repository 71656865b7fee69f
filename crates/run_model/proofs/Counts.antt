-- Cuts by their counts: minimum, maximum, order, the next cut, and the number of events of a cut.
use Rattle.std.proofs.Common.{set, ◌≡◌, ℕ, zero, suc, ◌+◌, ◌<◌, ◌≤◌, ◌⊎◌, min, max, [], ◌∷◌, length, replicate, sym, subst, refl, inl, inr, arith, le_refl, zero-le}
use Rattle.std.proofs.lemmas.List.{ext_get_or, length-set, length-map, length-replicate, get_or-set_same, get_or-set_other, get_or_past}
use Rattle.std.proofs.lemmas.Bool.{cases_eq}
use Rattle.run_model.specs.Cut.{Cut, Clocks, count, IsWithin, min_cut, max_cut, with_next, lengths, initial}

pub count-min : (c d : Cut) (i : ℕ) → count (min_cut c d) i ≡ min (count c i) (count d i)
unfolding min_cut
count-min [] d i = omega arith
count-min (x ∷ c) [] i = omega arith
count-min (x ∷ c) (y ∷ d) zero = refl
count-min (x ∷ c) (y ∷ d) (suc i) = count-min c d i

pub count-max : (c d : Cut) (i : ℕ) → count (max_cut c d) i ≡ max (count c i) (count d i)
unfolding max_cut
count-max [] d i = omega arith
count-max (x ∷ c) [] i = omega arith
count-max (x ∷ c) (y ∷ d) zero = refl
count-max (x ∷ c) (y ∷ d) (suc i) = count-max c d i

pub length-min : (c d : Cut) → length (min_cut c d) ≡ min (length c) (length d)
unfolding min_cut
length-min [] d = omega arith
length-min (x ∷ c) [] = omega arith
length-min (x ∷ c) (y ∷ d) = omega (arith, length-min c d)

pub length-max : (c d : Cut) → length (max_cut c d) ≡ max (length c) (length d)
unfolding max_cut
length-max [] d = omega arith
length-max (x ∷ c) [] = omega arith
length-max (x ∷ c) (y ∷ d) = omega (arith, length-max c d)

pub count_past : (c : Cut) (i : ℕ) → length c ≤ i → count c i ≡ 0
count_past c i h = get_or_past c i 0 h

-- two cuts of one length, each within the other, are one
pub within_both : (c d : Cut) → length c ≡ length d → IsWithin c d → IsWithin d c → c ≡ d
within_both c d e h k = ext_get_or 0 c d e (λ i l. omega (arith, h i, k i))

pub same_counts : (c d : Cut) → length c ≡ length d → ((i : ℕ) → count c i ≡ count d i) → c ≡ d
same_counts c d e h = ext_get_or 0 c d e (λ i l. h i)

pub within_refl : (c : Cut) → IsWithin c c
within_refl c i = le_refl (count c i)

pub within_trans : (c d e : Cut) → IsWithin c d → IsWithin d e → IsWithin c e
within_trans c d e h k i = omega (arith, h i, k i)

pub min_left : (c d : Cut) → IsWithin (min_cut c d) c
min_left c d i = omega (arith, count-min c d i)

pub min_right : (c d : Cut) → IsWithin (min_cut c d) d
min_right c d i = omega (arith, count-min c d i)

pub max_left : (c d : Cut) → IsWithin c (max_cut c d)
max_left c d i = omega (arith, count-max c d i)

pub max_right : (c d : Cut) → IsWithin d (max_cut c d)
max_right c d i = omega (arith, count-max c d i)

pub within_min : (e c d : Cut) → IsWithin e c → IsWithin e d → IsWithin e (min_cut c d)
within_min e c d h k i = omega (arith, count-min c d i, h i, k i)

pub max_within : (c d e : Cut) → IsWithin c e → IsWithin d e → IsWithin (max_cut c d) e
max_within c d e h k i = omega (arith, count-max c d i, h i, k i)

-- the maximum with what is within a cut is the cut, where lengths agree
pub max_absorbs : (c d : Cut) → length c ≡ length d → IsWithin d c → max_cut c d ≡ c
max_absorbs c d e h = same_counts (max_cut c d) c (omega (arith, length-max c d)) (λ i. omega (arith, count-max c d i, h i))

pub length-with_next : (c : Cut) (i : ℕ) → length (with_next c i) ≡ length c
length-with_next c i = length-set c i (count c i + 1)

pub with_next_same : (c : Cut) (i : ℕ) → i < length c → count (with_next c i) i ≡ count c i + 1
with_next_same c i h = get_or-set_same c i (count c i + 1) 0 h

pub with_next_other : (c : Cut) (i j : ℕ) → (j ≡ i → ⊥) → count (with_next c i) j ≡ count c j
with_next_other c i j ne = get_or-set_other c i j (count c i + 1) 0 ne

pub with_next_above : (c : Cut) (i : ℕ) → i < length c → IsWithin c (with_next c i)
with_next_above c i h j = elim (cases_eq j i) [
  | inl e ↦ subst (λ x. count c x ≤ count (with_next c i) x) (sym e) (omega (arith, with_next_same c i h))
  | inr ne ↦ omega (arith, with_next_other c i j ne)
]

-- a cut that has c and the next event of i has the next cut
pub with_next_least : (c d : Cut) (i : ℕ) → i < length c → IsWithin c d → count c i + 1 ≤ count d i → IsWithin (with_next c i) d
with_next_least c d i l h k j = elim (cases_eq j i) [
  | inl e ↦ subst (λ x. count (with_next c i) x ≤ count d x) (sym e) (omega (arith, with_next_same c i l))
  | inr ne ↦ omega (arith, with_next_other c i j ne, h j)
]

pub length-lengths : (o : Clocks) → length (lengths o) ≡ length o
unfolding lengths
length-lengths o = length-map o length

pub length-initial : (o : Clocks) → length (initial o) ≡ length o
unfolding initial
length-initial o = length-replicate (length o) 0

replicated : (n i : ℕ) → count (replicate n 0) i ≡ 0
replicated zero i = refl
replicated (suc n) zero = refl
replicated (suc n) (suc i) = replicated n i

pub count-initial : (o : Clocks) (i : ℕ) → count (initial o) i ≡ 0
unfolding initial
count-initial o i = replicated (length o) i

pub initial_within : (o : Clocks) (c : Cut) → IsWithin (initial o) c
initial_within o c i = omega (arith, count-initial o i)

-- how many events a cut has
unfoldable pub total : Cut → ℕ
total [] = 0
total (x ∷ c) = x + total c

pub total_within : (c d : Cut) → IsWithin c d → total c ≤ total d
unfolding total
total_within [] d h = zero-le
total_within (x ∷ c) [] h = omega (arith, h 0, total_within c [] (λ i. h (suc i)))
total_within (x ∷ c) (y ∷ d) h = omega (arith, h 0, total_within c d (λ i. h (suc i)))

pub total_below : (c d : Cut) (i : ℕ) → IsWithin c d → count c i < count d i → total c < total d
unfolding total
total_below [] [] i h k = omega arith
total_below [] (y ∷ d) zero h k = omega arith
total_below [] (y ∷ d) (suc i) h k = omega (arith, total_below [] d i (λ j. zero-le) k)
total_below (x ∷ c) [] i h k = absurd (omega arith)
total_below (x ∷ c) (y ∷ d) zero h k = omega (arith, total_within c d (λ j. h (suc j)))
total_below (x ∷ c) (y ∷ d) (suc i) h k = omega (arith, h 0, total_below c d i (λ j. h (suc j)) k)

pub total_set : (c : Cut) (i n : ℕ) → i < length c → total (set c i n) + count c i ≡ total c + n
unfolding total
total_set [] i n h = absurd (omega (arith, h))
total_set (x ∷ c) zero n h = omega arith
total_set (x ∷ c) (suc i) n h = omega (arith, total_set c i n (omega (arith, h)))

pub total_next : (c : Cut) (i : ℕ) → i < length c → total (with_next c i) ≡ total c + 1
total_next c i h = omega (arith, total_set c i (count c i + 1) h)

-- a number below k has the one property, or all have the other
pub search_below : (P Q : ℕ → Type 0) → ((j : ℕ) → P j ⊎ Q j) → (k : ℕ) → ((j : ℕ) × (j < k) × P j) ⊎ ((j : ℕ) → j < k → Q j)
search_below P Q d zero = inr (λ j l. absurd (omega arith))
search_below P Q d (suc k) = elim (search_below P Q d k) [
  | inl w ↦ inl (w.0, omega (arith, w.1), w.2)
  | inr f ↦ elim (d k) [
    | inl p ↦ inl (k, omega arith, p)
    | inr q ↦ inr (λ j l. elim (cases_eq j k) [
      | inl e ↦ subst Q (sym e) q
      | inr ne ↦ f j (omega (arith, ne))
    ])
  ]
]
