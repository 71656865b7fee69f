use Rattle.std.proofs.Common.{◌≡◌, ◌-◌, length}
use Rattle.event_log.specs.Before.{filled}
use Rattle.event_log.proofs.copies.filled.Given as goal

abbrev pub invariant-fill : goal.invariant-fill
invariant-fill l = filled l.variables l.count ≡ filled l.fn.variables l.count

abbrev pub decreases-fill : goal.decreases-fill
decreases-fill l = l.count - length l.variables
