use Rattle.std.proofs.Common.{take}
use Rattle.vector_clock.specs.Events.{AllStand}
use Rattle.log_fitting.proofs.events.batches_stand.Given as goal

abbrev pub invariant-loop-batch : goal.invariant-loop-batch
invariant-loop-batch l = AllStand l.procs (take l.batch-index l.batches)
