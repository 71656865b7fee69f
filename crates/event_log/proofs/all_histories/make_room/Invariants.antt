use Rattle.std.proofs.Common.{◌≡◌}
use Rattle.event_log.proofs.all_histories.make_room.Given as goal

abbrev pub invariant-loop-process : goal.invariant-loop-process
invariant-loop-process l = l.each.items ≡ l.fn.each.items
