-- Graphs by the readers of each node, and the numbers that start at nodes.
use Rattle.std.specs.Prelude.{◌≡◌, ℕ, ◌<◌, List, [], length, get_or}
use Rattle.std.specs.List.{All, Contains}
use Rattle.greatest_reach.specs.declared.reach.Start.{Start}
use Rattle.greatest_reach.specs.Back.{IsGreatest}

-- each reader is a node
abbrev pub IsGraph : List (List ℕ) → Type 0
IsGraph readers = All (λ (nodes : List ℕ). All (λ (e : ℕ). e < length readers) nodes) readers

-- each number starts at one of so many nodes
abbrev pub StartsIn : ℕ → List Start → Type 0
StartsIn nodes starts = All (λ (s : Start). s.node < nodes) starts

-- x is a reader of y, so it looks back on y
abbrev pub Reads : List (List ℕ) → ℕ → ℕ → Type 0
Reads readers x y = Contains (get_or readers y []) x

-- the number starts at the node x
abbrev pub Starts : List Start → ℕ → ℕ → Type 0
Starts starts x n = Contains starts (record { value = n; node = x })

-- each node has the greatest number that reaches it
pub record AreGreatest (readers : List (List ℕ)) (starts : List Start) (values : List ℕ) : Type 0
  where
    pub width : length values ≡ length readers
    pub each : (e : ℕ) → e < length readers
        → IsGreatest (Reads readers) (Starts starts) e (get_or values e 0)
