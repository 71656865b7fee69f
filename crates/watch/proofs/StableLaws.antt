-- The answers of `Stable` are true exactly where they are to be.
use Rattle.std.proofs.Common.{◌≡◌, ℕ, suc, zero, ◌-◌, ◌<◌, ◌≤◌, ℤ, false, List, [], ◌∷◌, Option, Some, None, length, get_or, All, refl, sym, ◌∙◌, arith, inl, inr}
use Rattle.std.specs.Prelude.{◌↔◌, IsTrue}
use Rattle.std.specs.Cmp.Lexicographic.{pointwise}
use Rattle.std.specs.Cmp.Rules.{signed_items}
use Rattle.std.specs.Ordering.{int_eq}
use Rattle.std.proofs.lemmas.List.{take_all}
use Rattle.pota_base.specs.Limits.{most_variables}
use Rattle.watch.specs.Sizes.{length-stable_from}
use Rattle.watch.specs.Answering.{AnswerWhere, IsStableAt, stable_from, kept}

-- two states that are kept whole are the same where what is kept of them is
same_kept : (x y : List ℤ) → length x ≤ most_variables → length y ≤ most_variables → IsTrue (pointwise int_eq (kept x) (kept y)) ↔ (y ≡ x)
same_kept x y short_x short_y =
    let same_x : kept x ≡ x = take_all most_variables x short_x in
    let same_y : kept y ≡ y = take_all most_variables y short_y in
    (λ h. sym (sym same_x ∙ (signed_items (kept x) (kept y)).0 h ∙ same_y), λ e. (signed_items (kept x) (kept y)).1 (same_x ∙ sym e ∙ sym same_y))

-- the answer to a state that is not the first
next : (before : Option (List ℤ)) (states : List (List ℤ)) (k : ℕ) → ((j : ℕ) → j < length states → length (get_or states j []) ≤ most_variables) → suc k < length states
    → IsTrue (get_or (stable_from before states) (suc k) false) ↔ (get_or states (suc k) [] ≡ get_or states k [])
next before [] k short there = absurd (omega arith)
next before (x ∷ []) k short there = absurd (omega arith)
next before (x ∷ y ∷ rest) zero short there = same_kept x y (short 0 (omega arith)) (short 1 (omega arith))
next before (x ∷ y ∷ rest) (suc k) short there =
    next (Some (kept x)) (y ∷ rest) k (λ j h. short (suc j) (omega arith)) (omega arith)

at_place : (states : List (List ℤ)) → ((j : ℕ) → j < length states → length (get_or states j []) ≤ most_variables) → (k : ℕ) → k < length states
    → IsTrue (get_or (stable_from None states) k false) ↔ IsStableAt states k
at_place [] short k there = absurd (omega arith)
at_place (x ∷ rest) short zero there = (λ h. inl refl, λ h. refl)
at_place (x ∷ rest) short (suc k) there =
    let e : suc k - 1 ≡ k = omega arith in
    let same = next None (x ∷ rest) k short there in
    (λ h. inr (rw e (same.0 h)), λ h. elim h [ inl first ↦ absurd (cc) | inr unchanged ↦ same.1 (rw e at unchanged) ])

-- from the first state on, each answer is true exactly where it is to be
pub stable_where : (states : List (List ℤ)) → All (λ state. length state ≤ most_variables) states → AnswerWhere states (IsStableAt states) (stable_from None states)
stable_where states short = record {
  size = length-stable_from None states;
  each = at_place states (λ j h. short j [] h);
}
