use Rattle.std.proofs.Common.{take}
use Rattle.asked_instances.specs.Instances.{AreInstances, source_of}
use Rattle.asked_instances.proofs.asking.instances.Given as goal

abbrev pub invariant-loop-pair : goal.invariant-loop-pair
invariant-loop-pair l = AreInstances (source_of l.asked) (take l.pair-index l.pair-items) l.instances
