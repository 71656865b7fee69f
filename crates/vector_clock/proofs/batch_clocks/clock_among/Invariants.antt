use Rattle.std.proofs.Common.{◌≡◌, ◌+◌, ◌<◌, length, take}
use Rattle.vector_clock.specs.inside.BatchPlaces.{own_clocks}
use Rattle.vector_clock.proofs.batch_clocks.clock_among.Given as goal

abbrev pub invariant-loop-event : goal.invariant-loop-event
invariant-loop-event l = record {
  seen : l.left + length (own_clocks (take l.event-index l.batch) l.process) ≡ l.position;
  left : 0 < l.left;
}
