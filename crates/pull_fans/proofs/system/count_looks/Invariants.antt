use Rattle.std.proofs.Common.{◌≡◌, ◌+◌}
use Rattle.pull_fans.proofs.system.count_looks.Given as goal

abbrev pub invariant-loop-look : goal.invariant-loop-look
invariant-loop-look g l = l.counter ≡ l.fn.counter + l._look
