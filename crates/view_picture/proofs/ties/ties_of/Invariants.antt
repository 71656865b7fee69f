use Rattle.std.proofs.Common.{◌≡◌, take}
use Rattle.std.specs.List.{flat_map}
use Rattle.view_picture.specs.Ties.{ties_to}
use Rattle.view_picture.proofs.ties.ties_of.Given as goal

abbrev pub invariant-loop-k : goal.invariant-loop-k
invariant-loop-k l = l.ties ≡ flat_map (ties_to l.trace.states l.columns) (take l.k l.shown)
