use Rattle.std.proofs.Common.{ℕ, ◌+◌, ◌<◌, ◌≤◌}
use Rattle.pull_system.specs.Marks.{marked}
use Rattle.pull_system.specs.System.{HoldsPull}
use Rattle.certificate_table.specs.Begun.{present_row}
use Rattle.certificate_raises.specs.Canonical.{AreDoubts}
use Rattle.certificate_raises.proofs.raise.first_failing.Given as goal

abbrev pub invariant-loop-pull : goal.invariant-loop-pull
invariant-loop-pull g l = record {
  doubts : AreDoubts l.rows l.doubts;
  held : (k : ℕ) → k < l.pull → HoldsPull l.rows.system (present_row l.rows) k;
  looks : l.steps + marked l.doubts ≤ l.fn.steps + marked l.fn.doubts;
}
