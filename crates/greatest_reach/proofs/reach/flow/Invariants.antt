use Rattle.std.proofs.Common.{◌≡◌, []}
use Rattle.greatest_reach.proofs.Flows.{AreSettled}
use Rattle.greatest_reach.proofs.reach.flow.Given as goal

abbrev pub invariant-loop-i : goal.invariant-loop-i
invariant-loop-i l = record {
  settled : AreSettled l.readers l.starts l.i l.values;
  empty : l.stack.items ≡ [];
}
