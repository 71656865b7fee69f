use Rattle.std.proofs.Common.{◌≡◌, ◌++◌, length, replicate}
use Rattle.pull_system.proofs.Starts.{IsPast}
use Rattle.pull_system.proofs.rows.push_start.Given as goal

abbrev pub invariant-loop-process : goal.invariant-loop-process
invariant-loop-process l = record {
  past : IsPast l.lens l.row l.process l.left;
  zeros : l.words.items ≡ l.fn.words.items ++ replicate (length l.lens) 0;
}
