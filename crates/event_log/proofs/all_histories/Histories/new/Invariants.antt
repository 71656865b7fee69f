use Rattle.std.proofs.Common.{◌≡◌, take}
use Rattle.event_log.proofs.Placing.{fresh_placed}
use Rattle.event_log.proofs.all_histories.Histories.new.Given as goal

abbrev pub invariant-loop-variables : goal.invariant-loop-variables
invariant-loop-variables l = l.each.items ≡ fresh_placed (take l.variables-index l.vars)
