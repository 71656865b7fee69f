use Rattle.std.proofs.Common.{◌+◌, ◌-◌, ◌*◌, ◌≤◌, length, sum}
use Rattle.least_cut.specs.inside.Climb.{AreMarks, AreHeld}
use Rattle.pull_system.specs.System.{IsBelowLeast}
use Rattle.pull_system.specs.Marks.{marked}
use Rattle.least_cut.proofs.least.Given as goal

abbrev pub invariant-loop-process : goal.invariant-loop-process
invariant-loop-process g l = record {
  marks : AreMarks l.system.lens l.risen;
  settled : AreHeld l.system l.vector l.risen (λ k. Unit {0});
  below : IsBelowLeast l.system l.fn.vector l.vector;
  looks : l.steps + length l.system.pulls * marked l.risen + length l.system.pulls * sum l.fn.vector ≤ l.fn.steps + length l.system.pulls * (1 + sum l.vector);
}

abbrev pub decreases-loop-process : goal.decreases-loop-process
decreases-loop-process g l = 2 * (sum l.system.lens + length l.system.lens - sum l.vector) + marked l.risen
