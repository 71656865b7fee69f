-- Two slices joined, row by row.
use Rattle.std.specs.Prelude.{List, [], ◌∷◌, Option}
use Rattle.run_model.specs.Cut.{Cut}
use Rattle.run_model.specs.Operators.{min_row}
use Rattle.slice_graph.specs.Views.{SliceView}

-- the minimum of each row and its counterpart
abbrev pub min_rows : List (Option Cut) → List (Option Cut) → List (Option Cut)
min_rows [] ks = []
min_rows (j ∷ js) [] = []
min_rows (j ∷ js) (k ∷ ks) = min_row j k ∷ min_rows js ks

-- the slice whose rows are the minima of the rows of two
abbrev pub joined_views : SliceView → SliceView → SliceView
joined_views v w = record { lens = v.lens; rows = min_rows v.rows w.rows }
