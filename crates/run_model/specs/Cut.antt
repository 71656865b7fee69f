-- Cuts of a run: one count per process, the number of its first events that the cut has. Vector
-- clocks (Fidge; Mattern) are cuts too: the clock of an event is the cut of the events that are it
-- or before it.
use Rattle.std.specs.Prelude.{◌≡◌, ℕ, ◌+◌, ◌<◌, ◌≤◌, min, max, List, [], ◌∷◌, length, get_or, set}
use Rattle.std.specs.Prelude.{replicate, map}

abbrev pub Cut : Type 0
Cut = List ℕ

-- how many events of process i the cut has; none of a process that is not there
abbrev pub count : Cut → ℕ → ℕ
count c i = get_or c i 0

-- each event of the first cut is one of the second
abbrev pub IsWithin : Cut → Cut → Type 0
IsWithin c d = (i : ℕ) → count c i ≤ count d i

-- the componentwise minimum: the events that both have
unfoldable pub min_cut : Cut → Cut → Cut
min_cut [] d = []
min_cut (x ∷ c) [] = []
min_cut (x ∷ c) (y ∷ d) = min x y ∷ min_cut c d

-- the componentwise maximum: the events that one of them has
unfoldable pub max_cut : Cut → Cut → Cut
max_cut [] d = d
max_cut (x ∷ c) [] = x ∷ c
max_cut (x ∷ c) (y ∷ d) = max x y ∷ max_cut c d

-- the cut with the next event of process i
abbrev pub with_next : Cut → ℕ → Cut
with_next c i = set c i (count c i + 1)

-- the second cut has exactly one event more than the first
abbrev pub Follows : Cut → Cut → Type 0
Follows c d = (i : ℕ) × (i < length c) × (d ≡ with_next c i)

-- the vector clocks of the events of each process, in their order
abbrev pub Clocks : Type 0
Clocks = List (List Cut)

-- the final cut: it has every event
unfoldable pub lengths : Clocks → Cut
lengths o = map length o

-- the initial cut: it has no event
unfoldable pub initial : Clocks → Cut
initial o = replicate (length o) 0
