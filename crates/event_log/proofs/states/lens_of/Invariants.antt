use Rattle.std.proofs.Common.{◌≡◌, take}
use Rattle.event_log.proofs.Keeping.{lens_in}
use Rattle.event_log.proofs.states.lens_of.Given as goal

abbrev pub invariant-loop-process : goal.invariant-loop-process
invariant-loop-process l = l.lens.items ≡ lens_in (take l.process l.histories)
