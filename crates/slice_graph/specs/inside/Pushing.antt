-- Inside: rows that are put behind those of a table.
use Rattle.std.specs.Prelude.{◌≡◌, ℕ, ◌+◌, ◌<◌, List, ◌++◌, length, get_or, Option, Some}
use Rattle.run_model.specs.Cut.{Cut, IsWithin}
use Rattle.pull_system.specs.Rows.{RowsView, row_at}
use Rattle.slice_graph.specs.Views.{SliceView, joined_onto, no_row}
use Rattle.slice_graph.specs.Fitting.{IsCutOfVector}

-- the row of a cut
abbrev pub some_row : Cut → Option Cut
some_row c = Some c

-- a table of rows, and the maximum of their cuts
pub record SoFar : Type 0 where
  pub table : SliceView
  pub top : Cut

abbrev pub so_far : SliceView → Cut → SoFar
so_far table top = record { table = table; top = top }

-- the cuts of so many rows, from the first on, come behind the others, and their maximum with the
-- cut before is the cut now
pub record PushesRows (rows : RowsView) (first count : ℕ) (before now : SoFar) : Type 0 where
  pub kept : List (Option Cut)
  pub size : length kept ≡ count
  pub each : (a : ℕ) → a < count
      → IsCutOfVector rows.lens (row_at rows.lens rows.words (first + a)) (get_or kept a no_row)
  pub table : now.table ≡ record before.table { rows = before.table.rows ++ kept }
  pub top : now.top ≡ joined_onto before.top kept

-- of so many rows, from the first on, each is within the next
abbrev pub AreRising : RowsView → ℕ → ℕ → Type 0
AreRising rows first count =
    (a : ℕ) → a + 1 < count
    → IsWithin (row_at rows.lens rows.words (first + a))
    (row_at rows.lens rows.words (first + (a + 1)))
