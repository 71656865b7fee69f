-- How many steps one worker may take.
use Rattle.std.specs.Prelude.{ℕ, ◌+◌, ◌-◌, ◌*◌, Bool, true, false, List, [], ◌∷◌, length, drop, sum}
use Rattle.std.specs.Prelude.{Option, Some, None}
use Rattle.pull_system.specs.Rows.{RowsView, starts}
use Rattle.pull_system.specs.Growth.{grown_words}
use Rattle.slice_workers.specs.Views.{SettledView}
use Rattle.rctl_parts.specs.Pieces.{Piece, atom, temporal}
use Rattle.conjunctions.specs.Numbering.{all_atoms}

-- the most pulls of a part, of n processes: one for an atom, and one for each two processes for an
-- operator
abbrev pub room_of : ℕ → Piece → ℕ
room_of n (atom a) = 1
room_of n (temporal operator ps) = n * n

abbrev pub rooms_of : ℕ → List Piece → ℕ
rooms_of n [] = 0
rooms_of n (p ∷ ps) = room_of n p + rooms_of n ps

-- the most pulls of a conjunction, with those of the order
abbrev pub pulls_bound : ℕ → List Piece → ℕ
pulls_bound n ps = n * (n - 1) + rooms_of n ps

-- the rows of the first one, where there is one
abbrev pub first_of : List SettledView → Option RowsView
first_of [] = None
first_of (one ∷ more) = Some one.rows

-- no row of a conjunction of atoms begins below its row of before, grown, or its start
abbrev pub floor_words : List ℕ → Option RowsView → List ℕ
floor_words lens None = starts lens
floor_words lens (Some rows) = grown_words lens rows

-- the most steps with so many pulls: where rows are kept, by the rise of the words from there; else
-- by the lengths
abbrev pub steps_for : ℕ → Bool → List ℕ → Option RowsView → RowsView → ℕ
steps_for pulls true lens before rows =
    pulls * ((sum lens + 1) + (sum rows.words - sum (floor_words lens before)))
steps_for pulls false lens before rows = pulls * ((length lens + 1) * (sum lens + length lens))

-- the most steps for a conjunction: rows of atoms are kept
abbrev pub bound_of : List ℕ → Option RowsView → List Piece → RowsView → ℕ
bound_of lens before ps rows =
    steps_for (pulls_bound (length lens) ps) (all_atoms ps) lens before rows

-- one number for each conjunction
abbrev pub bounds : List ℕ → List SettledView → List (List Piece) → List SettledView → ℕ
bounds lens before [] settled = 0
bounds lens before (ps ∷ cs) [] = 0
bounds lens before (ps ∷ cs) (one ∷ more) =
    bound_of lens (first_of before) ps one.rows + bounds lens (drop 1 before) cs more
