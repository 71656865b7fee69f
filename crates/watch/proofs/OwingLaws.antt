-- The answers of `Owing` are true exactly where they are to be.
use Rattle.std.proofs.Common.{◌≡◌, ℕ, suc, zero, ◌<◌, ◌≤◌, ◌⊎◌, ℤ, pos, Bool, true, false, List, [], ◌∷◌, length, get_or, refl, ◌∙◌, ap, arith, inl, inr, ◌&&◌, ◌||◌}
use Rattle.std.specs.Prelude.{◌↔◌, ◌<ℤ◌, IsTrue, int_lt}
use Rattle.std.specs.Ordering.{int_eq}
use Rattle.std.proofs.lemmas.Int.{ints}
use Rattle.std.proofs.lemmas.Bool.Decides.{Decides-int_eq}
use Rattle.watch.specs.Sizes.{length-owing_from}
use Rattle.watch.specs.Answering.{AnswerWhere, IsOwingAt, first_variable, first_at, owing_from, owing_after}

-- something was owed before the states, and none of them up to this place pays it
record IsStillOwing (owing : Bool) (states : List (List ℤ)) (k : ℕ) : Type 0 where
  owed : owing ≡ true
  unpaid : (j : ℕ) → j ≤ k → pos 0 <ℤ first_at states j → ⊥

either : (a b c : Bool) → IsTrue (a || (b && c)) → (a ≡ true) ⊎ ((b ≡ true) × (c ≡ true))
either true b c h = inl refl
either false true c h = inr (refl, h)
either false false c h = absurd (cc)

or_left : (a b : Bool) → a ≡ true → IsTrue (a || b)
or_left true b h = refl
or_left false b h = absurd (cc)

or_right : (a b : Bool) → b ≡ true → IsTrue (a || b)
or_right true b h = refl
or_right false b h = h

below : (x : ℤ) → int_lt x (pos 0) ≡ true → x <ℤ pos 0
below x h = grind (arith, ints)

is_below : (x : ℤ) → x <ℤ pos 0 → int_lt x (pos 0) ≡ true
is_below x h = grind (arith, ints)

not_above : (x : ℤ) → x <ℤ pos 0 → pos 0 <ℤ x → ⊥
not_above x h above = omega (arith, ints)

zero_not_above : (x : ℤ) → int_eq x (pos 0) ≡ true → pos 0 <ℤ x → ⊥
zero_not_above x h above = let e : x ≡ pos 0 = (Decides-int_eq x (pos 0)).0 h in omega (arith, ints)

-- something is owed behind a state of which the first variable is x exactly where it borrows, or it doesn't pay what was owed
owed : (owing : Bool) (x : ℤ) → IsTrue (int_lt x (pos 0) || (owing && int_eq x (pos 0))) → (x <ℤ pos 0) ⊎ ((owing ≡ true) × (pos 0 <ℤ x → ⊥))
owed owing x h = from (either (int_lt x (pos 0)) owing (int_eq x (pos 0)) h)
  where
    from : (int_lt x (pos 0) ≡ true) ⊎ ((owing ≡ true) × (int_eq x (pos 0) ≡ true)) → (x <ℤ pos 0) ⊎ ((owing ≡ true) × (pos 0 <ℤ x → ⊥))
    from (inl less) = inl (below x less)
    from (inr (was, equal)) = inr (was, zero_not_above x equal)

is_owed : (owing : Bool) (x : ℤ) → (x <ℤ pos 0) ⊎ ((owing ≡ true) × (pos 0 <ℤ x → ⊥)) → IsTrue (int_lt x (pos 0) || (owing && int_eq x (pos 0)))
is_owed owing x (inl less) = or_left (int_lt x (pos 0)) (owing && int_eq x (pos 0)) (is_below x less)
is_owed owing x (inr (was, unpaid)) = by_test (int_lt x (pos 0)) refl
  where
    by_test : (b : Bool) → int_lt x (pos 0) ≡ b → IsTrue (int_lt x (pos 0) || (owing && int_eq x (pos 0)))
    by_test true e = or_left (int_lt x (pos 0)) (owing && int_eq x (pos 0)) e
    by_test false e =
        let is_zero : x ≡ pos 0 = grind (arith, ints) in
        let equal : int_eq x (pos 0) ≡ true = (Decides-int_eq x (pos 0)).1 is_zero in
        or_right (int_lt x (pos 0)) (owing && int_eq x (pos 0)) (ap (λ b. owing && b) equal ∙ ap (λ b. b && true) was)

-- the fact at each place of a list with one more state in front
unpaid_with : (x : List ℤ) (rest : List (List ℤ)) (k : ℕ) → (pos 0 <ℤ first_variable x → ⊥) → ((j : ℕ) → j ≤ k → pos 0 <ℤ first_at rest j → ⊥)
    → (j : ℕ) → j ≤ suc k → pos 0 <ℤ first_at (x ∷ rest) j → ⊥
unpaid_with x rest k head others zero within = head
unpaid_with x rest k head others (suc j) within = others j (omega arith)

first_to : (owing : Bool) (x : List ℤ) (rest : List (List ℤ)) → (first_variable x <ℤ pos 0) ⊎ ((owing ≡ true) × (pos 0 <ℤ first_variable x → ⊥)) → IsOwingAt (x ∷ rest) 0 ⊎ IsStillOwing owing (x ∷ rest) 0
first_to owing x rest (inl less) = inl (record { since = 0; before = omega arith; negative = less; unpaid = at_zero (not_above (first_variable x) less) })
  where
    at_zero : (pos 0 <ℤ first_variable x → ⊥) → (j : ℕ) → 0 ≤ j → j ≤ 0 → pos 0 <ℤ first_at (x ∷ rest) j → ⊥
    at_zero head zero from within = head
    at_zero head (suc j) from within = absurd (omega arith)
first_to owing x rest (inr (was, unpaid)) = inr (record { owed = was; unpaid = at_zero unpaid })
  where
    at_zero : (pos 0 <ℤ first_variable x → ⊥) → (j : ℕ) → j ≤ 0 → pos 0 <ℤ first_at (x ∷ rest) j → ⊥
    at_zero head zero within = head
    at_zero head (suc j) within = absurd (omega arith)

first_from : (owing : Bool) (x : List ℤ) (rest : List (List ℤ)) → IsOwingAt (x ∷ rest) 0 ⊎ IsStillOwing owing (x ∷ rest) 0 → (first_variable x <ℤ pos 0) ⊎ ((owing ≡ true) × (pos 0 <ℤ first_variable x → ⊥))
first_from owing x rest (inl is) = inl (at_zero is.since is.before is.negative)
  where
    at_zero : (since : ℕ) → since ≤ 0 → first_at (x ∷ rest) since <ℤ pos 0 → first_variable x <ℤ pos 0
    at_zero zero within h = h
    at_zero (suc since) within h = absurd (omega arith)
first_from owing x rest (inr still) = inr (still.owed, still.unpaid 0 (omega arith))

next_to : (owing : Bool) (x : List ℤ) (rest : List (List ℤ)) (k : ℕ) → IsOwingAt rest k ⊎ IsStillOwing (owing_after owing x) rest k → IsOwingAt (x ∷ rest) (suc k) ⊎ IsStillOwing owing (x ∷ rest) (suc k)
next_to owing x rest k (inl is) =
    inl (record { since = suc is.since; before = let h = is.before in omega arith; negative = is.negative; unpaid = later })
  where
    later : (j : ℕ) → suc is.since ≤ j → j ≤ suc k → pos 0 <ℤ first_at (x ∷ rest) j → ⊥
    later zero from within = absurd (omega arith)
    later (suc j) from within = is.unpaid j (omega arith) (omega arith)
next_to owing x rest k (inr still) = by_head (owed owing (first_variable x) still.owed)
  where
    by_head : (first_variable x <ℤ pos 0) ⊎ ((owing ≡ true) × (pos 0 <ℤ first_variable x → ⊥)) → IsOwingAt (x ∷ rest) (suc k) ⊎ IsStillOwing owing (x ∷ rest) (suc k)
    by_head (inl less) =
        inl (record { since = 0; before = omega arith; negative = less; unpaid = λ j from. unpaid_with x rest k (not_above (first_variable x) less) still.unpaid j })
    by_head (inr (was, unpaid)) = inr (record { owed = was; unpaid = unpaid_with x rest k unpaid still.unpaid })

next_from : (owing : Bool) (x : List ℤ) (rest : List (List ℤ)) (k : ℕ) → IsOwingAt (x ∷ rest) (suc k) ⊎ IsStillOwing owing (x ∷ rest) (suc k) → IsOwingAt rest k ⊎ IsStillOwing (owing_after owing x) rest k
next_from owing x rest k (inl is) = by_since is.since is.before is.negative is.unpaid
  where
    by_since : (since : ℕ) → since ≤ suc k → first_at (x ∷ rest) since <ℤ pos 0 → ((j : ℕ) → since ≤ j → j ≤ suc k → pos 0 <ℤ first_at (x ∷ rest) j → ⊥) → IsOwingAt rest k ⊎ IsStillOwing (owing_after owing x) rest k
    by_since zero within less unpaid = inr (record { owed = is_owed owing (first_variable x) (inl less); unpaid = λ j h. unpaid (suc j) (omega arith) (omega arith) })
    by_since (suc since) within less unpaid =
        inl (record { since = since; before = omega arith; negative = less; unpaid = λ j from h. unpaid (suc j) (omega arith) (omega arith) })
next_from owing x rest k (inr still) =
    inr (record { owed = is_owed owing (first_variable x) (inr (still.owed, still.unpaid 0 (omega arith))); unpaid = λ j h. still.unpaid (suc j) (omega arith) })

each : (owing : Bool) (states : List (List ℤ)) (k : ℕ) → k < length states
    → IsTrue (get_or (owing_from owing states) k false) ↔ (IsOwingAt states k ⊎ IsStillOwing owing states k)
each owing [] k there = absurd (omega arith)
each owing (x ∷ rest) zero there = (λ h. first_to owing x rest (owed owing (first_variable x) h), λ is. is_owed owing (first_variable x) (first_from owing x rest is))
each owing (x ∷ rest) (suc k) there =
    let others = each (owing_after owing x) rest k (omega arith) in
    (λ h. next_to owing x rest k (others.0 h), λ is. others.1 (next_from owing x rest k is))

alone : (states : List (List ℤ)) (k : ℕ) → IsOwingAt states k ⊎ IsStillOwing false states k → IsOwingAt states k
alone states k (inl is) = is
alone states k (inr still) = let e = still.owed in absurd (cc)

-- each answer is true exactly where it is to be
pub owing_where : (states : List (List ℤ)) → AnswerWhere states (IsOwingAt states) (owing_from false states)
owing_where states = record {
  size = length-owing_from false states;
  each = λ k there. (λ h. alone states k ((each false states k there).0 h), λ is. (each false states k there).1 (inl is));
}
