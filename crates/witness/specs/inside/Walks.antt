-- Paths that take at each cut the first process that goes on.
use Rattle.std.specs.Prelude.{◌≡◌, ℕ, ◌<◌, length}
use Rattle.run_model.specs.Cut.{Cut, IsWithin, with_next}

-- the first process whose next event leads to a cut of the set
pub record IsNext (A : Cut → Type 0) (c : Cut) (p : ℕ) : Type 0 where
  pub there : p < length c
  pub leads : A (with_next c p)
  pub first : (j : ℕ) → j < p → A (with_next c j) → ⊥

-- no process does
abbrev pub HasNoNext : (Cut → Type 0) → Cut → Type 0
HasNoNext A c = (p : ℕ) → p < length c → A (with_next c p) → ⊥

-- each cut of the set is within the goal, and the goal alone is one from which no process goes on
pub record LeadsTo (A : Cut → Type 0) (goal : Cut) : Type 0 where
  pub stops : (c : Cut) → A c → HasNoNext A c → c ≡ goal
  pub within : (c : Cut) → A c → IsWithin c goal
