use Rattle.std.proofs.Common.{◌≡◌, map}
use Rattle.std.specs.List.{range_with_len}
use Rattle.counter_preds.specs.Counters.{value_in}
use Rattle.counter_preds.proofs.values.values_along.Given as goal

abbrev pub invariant-loop-position : goal.invariant-loop-position
invariant-loop-position l = l.values.items ≡ map (value_in l.states l.variable) (range_with_len 0 l.position)
