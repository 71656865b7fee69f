use Rattle.std.proofs.Common.{◌≡◌, [], replicate}
use Rattle.vector_clock.specs.inside.Nodes.{AreReaders}
use Rattle.vector_clock.proofs.nodes.readers_of.Given as goal

abbrev pub invariant-loop-event : goal.invariant-loop-event
invariant-loop-event l = l.readers.items ≡ replicate l._event-index []

abbrev pub invariant-loop-i : goal.invariant-loop-i
invariant-loop-i l = AreReaders l.batch l.nodes l.i l.readers.items
