use Rattle.std.proofs.Common.{◌≡◌, ◌++◌, take}
use Rattle.std.specs.List.{flat_map}
use Rattle.view_picture.specs.Told.{ends_of}
use Rattle.view_picture.proofs.told.put_ends.Given as goal

abbrev pub invariant-loop-edge : goal.invariant-loop-edge
invariant-loop-edge l = l.named ≡ l.fn.named ++ flat_map ends_of (take l.edge-index l.edges)
