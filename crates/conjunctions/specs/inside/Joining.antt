-- The slices of disjuncts, joined one after the other.
use Rattle.std.specs.Prelude.{ℕ, ◌+◌, List, sum, replicate, Option, None, Some}
use Rattle.slice_graph.specs.Views.{SliceView, no_row}

-- what was joined so far: before the first disjunct that is the slice of no cut
abbrev pub so_far : List ℕ → Option SliceView → SliceView
so_far lens None = record { lens = lens; rows = replicate (sum lens + 1) no_row }
so_far lens (Some slice) = slice
