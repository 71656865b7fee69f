use Rattle.std.proofs.Common.{◌≡◌, take}
use Rattle.kept_log.specs.inside.Counted.{row_with_all}
use Rattle.kept_log.proofs.counts.Row.take_all.Given as goal

abbrev pub invariant-loop-event : goal.invariant-loop-event
invariant-loop-event l = l.self ≡ row_with_all l.numbers l.initial.self (take l.event-index l.batch)
