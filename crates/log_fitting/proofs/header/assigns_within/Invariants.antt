use Rattle.std.proofs.Common.{◌<◌, take}
use Rattle.std.specs.List.{AllByRecursion}
use Rattle.event_log.specs.declared.log.Assign.{Assign}
use Rattle.log_fitting.proofs.header.assigns_within.Given as goal

abbrev pub invariant-loop-assign : goal.invariant-loop-assign
invariant-loop-assign l = AllByRecursion (λ (a : Assign). a.variable < l.width) (take l.assign-index l.assign-items)
