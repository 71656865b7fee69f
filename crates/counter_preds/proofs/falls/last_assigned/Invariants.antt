use Rattle.std.proofs.Common.{◌≡◌, take}
use Rattle.counter_preds.specs.inside.Falls.{assigned_value}
use Rattle.counter_preds.proofs.falls.last_assigned.Given as goal

abbrev pub invariant-loop-assign : goal.invariant-loop-assign
invariant-loop-assign l = l.value ≡ assigned_value l.number l.initial.value (take l.assign-index l.assigns)
