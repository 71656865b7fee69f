use Rattle.std.proofs.Common.{◌≡◌, [], replicate}
use Rattle.vector_clock.specs.inside.Nodes.{HaveCounts}
use Rattle.vector_clock.proofs.counts.clocks_of.Given as goal

abbrev pub invariant-loop-event : goal.invariant-loop-event
invariant-loop-event l = l.clocks.items ≡ replicate l._event-index []

abbrev pub invariant-loop-process : goal.invariant-loop-process
invariant-loop-process l = HaveCounts l.order l.batch l.nodes l.readers l.process l.clocks.items
