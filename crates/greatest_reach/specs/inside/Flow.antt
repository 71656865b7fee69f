-- Numbers on their way through a graph. A node without a number has 0.
use Rattle.std.specs.Prelude.{◌≡◌, ℕ, ◌+◌, ◌<◌, ◌≤◌, ◌⊎◌, ◌==◌, List, length, get_or, sum_by}
use Rattle.std.specs.Prelude.{if◌then◌else◌}
use Rattle.std.specs.List.{Contains}
use Rattle.greatest_reach.specs.Back.{Back}
use Rattle.greatest_reach.specs.Graph.{Reads}

-- how many nodes have no number
abbrev pub unmarked : List ℕ → ℕ
unmarked values = sum_by (λ v. if v == 0 then 1 else 0) values

-- those of these nodes that had no number have this one, and stand on the stack
pub record AreMarked (nodes : List ℕ) (value : ℕ) (old new before after : List ℕ) : Type 0 where
  pub width : length new ≡ length old
  pub kept : (e : ℕ) → 0 < get_or old e 0 → get_or new e 0 ≡ get_or old e 0
  pub all : (e : ℕ) → Contains nodes e → 0 < get_or new e 0
  pub added : (e : ℕ) → 0 < get_or new e 0
      → (0 < get_or old e 0)
      ⊎ (Contains nodes e × (get_or new e 0 ≡ value) × Contains after e)
  pub stays : (e : ℕ) → Contains before e → Contains after e
  pub stacked : (e : ℕ) → Contains after e
      → Contains before e ⊎ (get_or new e 0 ≡ value)
  pub left : unmarked new + length after ≡ unmarked old + length before

-- this number is flowing on from the nodes on the stack, and none below it has flowed
pub record IsUnderway (readers : List (List ℕ)) (value : ℕ) (values stack : List ℕ) : Type 0 where
  pub width : length values ≡ length readers
  pub closed : (f e : ℕ) → Reads readers e f
      → (get_or values f 0 ≤ get_or values e 0) ⊎ Contains stack f
  pub stacked : (f : ℕ) → Contains stack f → get_or values f 0 ≡ value
  pub lower : (e : ℕ) → (get_or values e 0 ≡ 0) ⊎ (value ≤ get_or values e 0)

-- some nodes more have this number, and look back on one that had it
pub record IsGrown (readers : List (List ℕ)) (value : ℕ) (old new : List ℕ) : Type 0 where
  pub kept : (e : ℕ) → 0 < get_or old e 0 → get_or new e 0 ≡ get_or old e 0
  pub added : (e : ℕ) → 0 < get_or new e 0
      → (0 < get_or old e 0)
      ⊎ ((get_or new e 0 ≡ value)
      × ((x : ℕ) × Back (Reads readers) e x × (get_or old x 0 ≡ value)))
