-- The lengths of a shape, of which some are raised.
use Rattle.std.proofs.Common.{◌≡◌, ℕ, zero, suc, ◌+◌, ◌-◌, ◌<◌, ◌≤◌, List, [], ◌∷◌, length, take, get_or, set, sum, sym, ap, ◌∙◌, arith, inl, inr, below_more}
use Rattle.std.proofs.lemmas.Bool.{cases_lt}
use Rattle.std.proofs.lemmas.List.{length-set, get_or-set_same, get_or-set_other, take-set-le, ext_get_or}
use Rattle.std.proofs.lemmas.List.Sums.{sum_by-cons}
use Rattle.pota_base.specs.Shape.{IsShape, AreStarts}

sum-cons : (x : ℕ) (xs : List ℕ) → sum (x ∷ xs) ≡ x + sum xs
sum-cons x xs = sum_by-cons (λ n. n) x xs

-- ---- the starts

-- as much was added to the numbers from the first place on, below place i
pub record RaisedSoFar (old : List ℕ) (first more i : ℕ) (now : List ℕ) : Type 0 where
  pub count : length now ≡ length old
  pub below : (k : ℕ) → k < first → get_or now k 0 ≡ get_or old k 0
  pub raised : (k : ℕ) → first ≤ k → k < i → get_or now k 0 ≡ get_or old k 0 + more
  pub above : (k : ℕ) → first ≤ k → i ≤ k → get_or now k 0 ≡ get_or old k 0

-- the sum of a front that has the raised number
sum_behind : (xs : List ℕ) (p q v : ℕ) → p < length xs → p < q → get_or xs p 0 ≤ v → sum (take q (set xs p v)) ≡ sum (take q xs) + (v - get_or xs p 0)
sum_behind [] p q v h lt le = absurd (omega arith)
sum_behind (x ∷ xs) p zero v h lt le = absurd (omega arith)
sum_behind (x ∷ xs) zero (suc q) v h lt le = omega (arith, sum-cons v (take q xs), sum-cons x (take q xs))
sum_behind (x ∷ xs) (suc p) (suc q) v h lt le =
    omega (arith, sum-cons x (take q (set xs p v)), sum-cons x (take q xs), sum_behind xs p q v (omega arith) (omega arith) le)

pub starts_raised : (lens starts starts' : List ℕ) (p v : ℕ) → AreStarts lens starts → p < length lens → get_or lens p 0 ≤ v → length starts' ≡ length starts
    → ((k : ℕ) → k < p + 1 → get_or starts' k 0 ≡ get_or starts k 0) → ((k : ℕ) → p + 1 ≤ k → k < length starts → get_or starts' k 0 ≡ get_or starts k 0 + (v - get_or lens p 0))
    → AreStarts (set lens p v) starts'
starts_raised lens starts starts' p v h there le same below above = record {
  count = omega (arith, h.count, length-set lens p v);
  each = λ q within. elim (cases_lt q (p + 1)) [
    | inl lt ↦ below q lt ∙ h.each q (omega (arith, length-set lens p v)) ∙ ap sum (sym (take-set-le q lens p v (omega arith)))
    | inr ge ↦ above q (omega arith) (omega (arith, h.count, length-set lens p v))
        ∙ ap (λ (n : ℕ). n + (v - get_or lens p 0)) (h.each q (omega (arith, length-set lens p v))) ∙ sym (sum_behind lens p q v there (omega arith) le)
  ];
}

-- ---- all lengths, one by one

-- the lengths below i are the new ones, the others those from before
pub record MeasuredBelow (old lens : List ℕ) (i : ℕ) (now : List ℕ) : Type 0 where
  pub count : length now ≡ length old
  pub below : (p : ℕ) → p < i → get_or now p 0 ≡ get_or lens p 0
  pub above : (p : ℕ) → i ≤ p → get_or now p 0 ≡ get_or old p 0

pub measured_more : (old lens now : List ℕ) (i len : ℕ) → MeasuredBelow old lens i now → i < length now → len ≡ get_or lens i 0 → MeasuredBelow old lens (i + 1) (set now i len)
measured_more old lens now i len h lt is = record {
  count = length-set now i len ∙ h.count;
  below = below_more _ _ (λ p k. get_or-set_other now i p len 0 (λ e. absurd (omega arith)) ∙ h.below p k) (get_or-set_same now i len 0 lt ∙ is);
  above = λ p k. get_or-set_other now i p len 0 (λ e. absurd (omega arith)) ∙ h.above p (omega arith);
}

pub measured_same : (old lens now : List ℕ) (i : ℕ) → MeasuredBelow old lens i now → get_or lens i 0 ≡ get_or now i 0 → MeasuredBelow old lens (i + 1) now
measured_same old lens now i h is = record {
  count = h.count;
  below = below_more _ _ (λ p k. h.below p k) (sym is);
  above = λ p k. h.above p (omega arith);
}

pub measured_all : (old lens now : List ℕ) (i : ℕ) → MeasuredBelow old lens i now → length lens ≡ length old → length old ≤ i → now ≡ lens
measured_all old lens now i h same all = ext_get_or 0 now lens (omega (arith, h.count)) (λ p lt. h.below p (omega (arith, h.count)))

sum_le : (xs ys : List ℕ) → length xs ≡ length ys → ((p : ℕ) → get_or xs p 0 ≤ get_or ys p 0) → sum xs ≤ sum ys
sum_le [] [] same h = omega arith
sum_le [] (y ∷ ys) same h = absurd (omega arith)
sum_le (x ∷ xs) [] same h = absurd (omega arith)
sum_le (x ∷ xs) (y ∷ ys) same h = omega (arith, sum-cons x xs, sum-cons y ys, h 0, sum_le xs ys (omega arith) (λ p. h (suc p)))

-- what stands between the old lengths and the new ones is a shape
pub measured_shape : (old lens now : List ℕ) (i len : ℕ) → MeasuredBelow old lens i now → i < length now → len ≡ get_or lens i 0 → length lens ≡ length old → IsShape lens
    → ((p : ℕ) → get_or old p 0 ≤ get_or lens p 0) → IsShape (set now i len)
measured_shape old lens now i len h lt is same shape fits =
    let next = measured_more old lens now i len h lt is in
    record {
      some = omega (arith, next.count, same, shape.some);
      few = omega (arith, next.count, same, shape.few);
      events = omega (
        arith,
        shape.events,
        sum_le (set now i len) lens (omega (arith, next.count)) (λ p. elim (cases_lt p (i + 1)) [
          | inl b ↦ omega (arith, next.below p b)
          | inr a ↦ omega (arith, next.above p (omega arith), fits p)
        ]),
      );
    }
