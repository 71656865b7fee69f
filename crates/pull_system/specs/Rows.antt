-- One vector per row: row 0 is the bottom's, the others are the events' in row order.
use Rattle.std.specs.Prelude.{◌≡◌, ℕ, zero, suc, ◌+◌, ◌-◌, ◌*◌, ◌≤◌, List, [], ◌∷◌, ◌++◌, length}
use Rattle.std.specs.Prelude.{sum, slice_range, nat_le, if◌then◌else◌}
use Rattle.pota_base.specs.Shape.{IsShape}
use Rattle.pull_system.specs.System.{SystemView, IsLeastFrom}

-- the start of a row: 0 everywhere for row 0; for an event's row its position at its process, and 0
-- elsewhere
abbrev pub start_of : List ℕ → ℕ → List ℕ
start_of [] row = []
start_of (len ∷ lens) row = (if nat_le row len then row else 0) ∷ start_of lens (row - len)

-- the least closed vector of a row
abbrev pub IsLeast : SystemView → ℕ → List ℕ → Type 0
IsLeast system row v = IsLeastFrom system (start_of system.lens row) v

-- the lengths of the processes, and the words row by row
pub record RowsView : Type 0 where
  pub lens : List ℕ
  pub words : List ℕ

-- the place of a process's word in a row
abbrev pub place_of : List ℕ → ℕ → ℕ → ℕ
place_of lens row process = row * length lens + process

pub record AreRows (rows : RowsView) : Type 0 where
  pub shape : IsShape rows.lens
  pub size : length rows.words ≡ (sum rows.lens + 1) * length rows.lens

-- the words of one row
abbrev pub row_at : List ℕ → List ℕ → ℕ → List ℕ
row_at lens words row = slice_range words (place_of lens row 0) (place_of lens (row + 1) 0)

-- the first rows, one after the other
abbrev pub first_rows : (ℕ → List ℕ) → ℕ → List ℕ
first_rows row_of zero = []
first_rows row_of (suc row) = first_rows row_of row ++ row_of row

-- as many rows from the first on, one after the other
abbrev pub row_block : (ℕ → List ℕ) → ℕ → ℕ → List ℕ
row_block row_of first count = first_rows (λ k. row_of (first + k)) count

-- the starts of all rows
abbrev pub starts : List ℕ → List ℕ
starts lens = first_rows (start_of lens) (sum lens + 1)

-- each row is its least closed vector
pub record AreLeastRows (system : SystemView) (words : List ℕ) : Type 0 where
  pub each : (row : ℕ) → row ≤ sum system.lens → IsLeast system row (row_at system.lens words row)
