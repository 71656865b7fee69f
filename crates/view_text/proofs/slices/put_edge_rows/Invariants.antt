use Rattle.std.proofs.Common.{◌≡◌, ◌++◌, take}
use Rattle.std.specs.List.{flat_map}
use Rattle.view_text.specs.Text.{edge_row}
use Rattle.view_text.proofs.slices.put_edge_rows.Given as goal

abbrev pub invariant-loop-edge : goal.invariant-loop-edge
invariant-loop-edge l = l.out ≡ l.fn.out ++ flat_map (edge_row l.states) (take l.edge-index l.shown)
