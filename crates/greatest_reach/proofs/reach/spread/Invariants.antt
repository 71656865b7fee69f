use Rattle.std.proofs.Common.{◌+◌, length}
use Rattle.greatest_reach.specs.inside.Flow.{unmarked, IsUnderway, IsGrown}
use Rattle.greatest_reach.proofs.reach.spread.Given as goal

abbrev pub invariant-loop-node : goal.invariant-loop-node
invariant-loop-node l = record {
  underway : IsUnderway l.readers l.value l.values l.stack.items;
  grown : IsGrown l.readers l.value l.fn.values l.values;
}

abbrev pub decreases-loop-node : goal.decreases-loop-node
decreases-loop-node l = unmarked l.values + length l.stack.items
