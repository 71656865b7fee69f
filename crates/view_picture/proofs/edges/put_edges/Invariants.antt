use Rattle.std.proofs.Common.{◌≡◌, ◌++◌, take}
use Rattle.std.specs.List.{flat_map}
use Rattle.view_picture.specs.Drawing.{edge_drawn}
use Rattle.view_picture.proofs.edges.put_edges.Given as goal

abbrev pub invariant-loop-edge : goal.invariant-loop-edge
invariant-loop-edge l = l.out ≡ l.fn.out ++ flat_map (edge_drawn l.frame l.columns) (take l.edge-index l.shown)
