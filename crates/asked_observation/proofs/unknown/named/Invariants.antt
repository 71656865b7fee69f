use Rattle.std.proofs.Common.{◌≡◌, ◌+◌, drop}
use Rattle.asked_observation.specs.Observed.{unknown_from}
use Rattle.asked_observation.proofs.unknown.named.Given as goal

abbrev pub invariant-loop-entry : goal.invariant-loop-entry
invariant-loop-entry l =
    (l.question ≡ l.entry-index + 1) × (unknown_from l.question l.fn.before l.fn.fault (drop l.entry-index l.fn.listed) ≡ unknown_from 1 l.fn.before l.fn.fault l.fn.listed)
