-- Cuts within other cuts, as a test and as a fact.
use Rattle.std.proofs.Common.{◌≡◌, ℕ, zero, suc, ◌<◌, ◌≤◌, Bool, true, false, List, [], ◌∷◌, length, refl, sym, arith, inl, inr}
use Rattle.std.specs.Prelude.{◌↔◌, IsTrue, nat_le, ◌&&◌}
use Rattle.std.proofs.lemmas.Bool.{and_parts, and_from, leb-true, le-leb, cases_Bool, true≢false}
use Rattle.run_model.specs.Cut.{Cut, count, IsWithin}
use Rattle.report_lines.specs.Reading.{are_within}

pub within_is : (c d : Cut) → are_within c d ≡ true → IsWithin c d
within_is [] d h = λ i. omega arith
within_is (x ∷ c) [] h = absurd (true≢false (sym h))
within_is (x ∷ c) (y ∷ d) h =
    let p = and_parts (nat_le x y) (are_within c d) h in
    at (leb-true x y p.0) (within_is c d p.1)
  where
    at : x ≤ y → IsWithin c d → IsWithin (x ∷ c) (y ∷ d)
    at first rest zero = first
    at first rest (suc i) = rest i

pub within_again : (c d : Cut) → length c ≡ length d → IsWithin c d → are_within c d ≡ true
within_again [] d len h = refl
within_again (x ∷ c) [] len h = absurd (omega arith)
within_again (x ∷ c) (y ∷ d) len h = and_from (nat_le x y) (are_within c d) (le-leb x y (h 0)) (within_again c d (omega arith) (λ i. h (suc i)))

-- a test that tells whether the cut is within the other
pub within_same : (c d : Cut) (b : Bool) → length c ≡ length d → (IsTrue b ↔ IsWithin c d) → are_within c d ≡ b
within_same c d true len same = within_again c d len (same.0 refl)
within_same c d false len same = elim (cases_Bool (are_within c d)) [ inl h ↦ absurd (true≢false (sym (same.1 (within_is c d h)))) | inr h ↦ h ]
