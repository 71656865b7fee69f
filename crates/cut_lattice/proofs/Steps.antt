-- Going over the processes of two cuts in order.
use Rattle.std.proofs.Common.{◌≡◌, ℕ, ◌+◌, ◌<◌, ◌≤◌, ◌≢◌, min, max, List, length, arith, inl, inr, refl, sym, ◌∙◌, get_or}
use Rattle.std.proofs.lemmas.List.{ext_get_or}
use Rattle.std.proofs.lemmas.Bool.{cases_lt}
use Rattle.run_model.specs.Cut.{Cut, count, IsWithin, min_cut, max_cut}
use Rattle.run_model.proofs.Counts.{count-min, count-max, length-min, length-max, count_past}

-- the counts of the first i processes are done by this function of both, and the others are as they were
pub record DoneBelow (f : ℕ → ℕ → ℕ) (c d e : Cut) (i : ℕ) : Type 0 where
  pub len : length e ≡ length d
  pub below : (k : ℕ) → k < i → count e k ≡ f (count c k) (count d k)
  pub above : (k : ℕ) → i ≤ k → count e k ≡ count d k

pub done_none : (f : ℕ → ℕ → ℕ) (c d : Cut) → DoneBelow f c d d 0
done_none f c d = record { len = refl; below = λ k h. absurd (omega arith); above = λ k h. refl }

pub done_min : (c d e : Cut) (i : ℕ) → DoneBelow min c d e i → length d ≡ length c → length c ≤ i → e ≡ min_cut c d
done_min c d e i h same all = ext_get_or 0 e (min_cut c d) (omega (arith, h.len, length-min c d))
    (λ k lt. h.below k (omega (arith, h.len)) ∙ sym (count-min c d k))

pub done_max : (c d e : Cut) (i : ℕ) → DoneBelow max c d e i → length d ≡ length c → length c ≤ i → e ≡ max_cut c d
done_max c d e i h same all = ext_get_or 0 e (max_cut c d) (omega (arith, h.len, length-max c d))
    (λ k lt. h.below k (omega (arith, h.len)) ∙ sym (count-max c d k))

-- what holds of the processes that are there holds of all
pub all_within : (c d : Cut) (i : ℕ) → ((k : ℕ) → k < i → count c k ≤ count d k) → length c ≤ i → IsWithin c d
all_within c d i h all k = elim (cases_lt k i) [ inl lt ↦ h k lt | inr ge ↦ omega (arith, count_past c k (omega arith)) ]
