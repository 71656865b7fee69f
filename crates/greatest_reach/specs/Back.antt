-- What an item looks back on along links, and the greatest of the numbers that are given there.
use Rattle.std.specs.Prelude.{◌≡◌, ℕ, ◌≤◌, ◌⊎◌, max, Bool, ◌&&◌, ◌||◌, List, [], ◌∷◌, if◌then◌else◌}

-- the least set that has the item and, with each member, all that the member links to
pub data Back {N : Type 0} (Link : N → N → Type 0) (e : N) : N → Type 0 where
  itself : Back Link e e
  further : {x y : N} → Back Link e x → Link x y → Back Link e y

-- the greatest of 0 and the numbers that are given in what the item looks back on
pub record IsGreatest {N : Type 0} (Link : N → N → Type 0) (Gives : N → ℕ → Type 0) (e : N)
    (greatest : ℕ) : Type 0 where
  pub above : (x : N) → Back Link e x → (n : ℕ) → Gives x n → n ≤ greatest
  pub reached : (greatest ≡ 0) ⊎ ((x : N) × Back Link e x × Gives x greatest)

-- one or more links lead from x to y, with these items alone in between
unfoldable pub reaches : {N : Type 0} → (N → N → Bool) → List N → N → N → Bool
reaches link [] x y = link x y
reaches link (p ∷ ps) x y = reaches link ps x y || (reaches link ps x p && reaches link ps p y)

-- the greatest number of the items that pass the test
unfoldable pub greatest_where : {N : Type 0} → (N → Bool) → (N → ℕ) → List N → ℕ
greatest_where test given [] = 0
greatest_where test given (x ∷ xs) =
    max (if test x then given x else 0) (greatest_where test given xs)

-- the greatest of the numbers of the item and of those of these items that it looks back on
abbrev pub greatest_given : {N : Type 0} → (N → N → Bool) → (N → ℕ) → List N → N → ℕ
greatest_given link given items e =
    max (given e) (greatest_where (reaches link items e) given items)
