-- What the watches that the program hands in say of states, and how they find it state by state.
use Rattle.std.specs.Prelude.{◌≡◌, ℕ, ◌+◌, ◌-◌, ◌<◌, ◌≤◌, ◌⊎◌, ◌↔◌, ◌==◌, ◌<ℤ◌, ℤ, pos, int_lt}
use Rattle.std.specs.Prelude.{Bool, true, false, not, ◌&&◌, ◌||◌, if◌then◌else◌, min, List, [], ◌∷◌}
use Rattle.std.specs.Prelude.{Option, Some, None, length, take, get_or, IsTrue}
use Rattle.std.specs.Cmp.Lexicographic.{pointwise}
use Rattle.std.specs.Ordering.{int_eq}
use Rattle.pota_base.specs.Limits.{most_variables}

-- one truth value per state, which is true exactly where the fact holds at the state's place
pub record AnswerWhere (states : List (List ℤ)) (P : ℕ → Type 0) (answers : List Bool) : Type 0
  where
    pub size : length answers ≡ length states
    pub each : (k : ℕ) → k < length states → IsTrue (get_or answers k false) ↔ P k

-- the first variable of a state, and 0 where the process has none
abbrev pub first_variable : List ℤ → ℤ
first_variable [] = pos 0
first_variable (x ∷ state) = x

abbrev pub first_at : List (List ℤ) → ℕ → ℤ
first_at states k = first_variable (get_or states k [])

-- ---- stable

-- the state at this place is the first, or all its values equal those of the state just before
abbrev pub IsStableAt : List (List ℤ) → ℕ → Type 0
IsStableAt states k = (k ≡ 0) ⊎ (get_or states k [] ≡ get_or states (k - 1) [])

-- ---- owing

-- some state up to this place had a negative first variable, and none from it on a positive one
pub record IsOwingAt (states : List (List ℤ)) (k : ℕ) : Type 0 where
  pub since : ℕ
  pub before : since ≤ k
  pub negative : first_at states since <ℤ pos 0
  pub unpaid : (j : ℕ) → since ≤ j → j ≤ k → pos 0 <ℤ first_at states j → ⊥

-- ---- calm

-- at least three states up to this place, of which the last three have the same first variable
pub record IsCalmAt (states : List (List ℤ)) (k : ℕ) : Type 0 where
  pub three : 2 ≤ k
  pub last : first_at states k ≡ first_at states (k - 1)
  pub one_before : first_at states (k - 1) ≡ first_at states (k - 2)

-- ---- how they are found: what is kept of the states so far, and the answers from there on

-- a state as it is kept
abbrev pub kept : List ℤ → List ℤ
kept state = take most_variables state

-- the state just before, where one was fed
abbrev pub state_before : Bool → ℕ → List ℤ → Option (List ℤ)
state_before fed len values = if fed then Some (take len values) else None

abbrev pub is_unchanged : Option (List ℤ) → List ℤ → Bool
is_unchanged None state = true
is_unchanged (Some before) state = pointwise int_eq before (kept state)

abbrev pub stable_from : Option (List ℤ) → List (List ℤ) → List Bool
stable_from before [] = []
stable_from before (state ∷ rest) = is_unchanged before state ∷ stable_from (Some (kept state)) rest

-- whether something is owed behind a state
abbrev pub owing_after : Bool → List ℤ → Bool
owing_after owing state =
    int_lt (first_variable state) (pos 0) || (owing && int_eq (first_variable state) (pos 0))

abbrev pub owing_from : Bool → List (List ℤ) → List Bool
owing_from owing [] = []
owing_from owing (state ∷ rest) =
    owing_after owing state ∷ owing_from (owing_after owing state) rest

-- how many of the last states agree in their first variable behind a state, counted to three
abbrev pub agreeing_after : ℕ → ℤ → List ℤ → ℕ
agreeing_after agreeing first state =
    if (agreeing == 0) || not (int_eq (first_variable state) first) then 1 else min (agreeing + 1) 3

abbrev pub calm_from : ℕ → ℤ → List (List ℤ) → List Bool
calm_from agreeing first [] = []
calm_from agreeing first (state ∷ rest) =
    (agreeing_after agreeing first state == 3)
    ∷ calm_from (agreeing_after agreeing first state) (first_variable state) rest
