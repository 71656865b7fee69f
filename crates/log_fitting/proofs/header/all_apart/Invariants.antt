use Rattle.std.proofs.Common.{take}
use Rattle.std.specs.List.{AllByRecursion}
use Rattle.event_log.specs.States.{AreNamedApart}
use Rattle.log_fitting.proofs.header.all_apart.Given as goal

abbrev pub invariant-loop-bindings : goal.invariant-loop-bindings
invariant-loop-bindings l = AllByRecursion AreNamedApart (take l.bindings-index l.vars)
