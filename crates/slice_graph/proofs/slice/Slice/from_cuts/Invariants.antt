use Rattle.std.proofs.Common.{◌≡◌, ◌∷◌, take}
use Rattle.slice_graph.proofs.slice.Slice.from_cuts.Given as goal

abbrev pub invariant-loop-row : goal.invariant-loop-row
invariant-loop-row l = l.table ≡ record { lens = l.shape; rows = l.fn.bottom ∷ take l.row-index l.fn.rows }
