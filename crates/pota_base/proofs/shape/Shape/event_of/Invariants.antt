use Rattle.std.proofs.Common.{◌<◌, slice_index}
use Rattle.pota_base.proofs.shape.Shape.event_of.Given as goal

abbrev pub invariant-loop-process : goal.invariant-loop-process
invariant-loop-process l = slice_index l.self-inside.starts.items l.process < l.row
