use Rattle.std.proofs.Common.{◌-◌, ◌≤◌, length}
use Rattle.pull_fans.specs.inside.Asks.{AreRaisedIn, stretch_of}
use Rattle.pull_fans.proofs.fan.Fan.raise.Given as goal

abbrev pub invariant-loop-first : goal.invariant-loop-first
invariant-loop-first l = record {
  within : l.first ≤ length l.targets;
  raised : AreRaisedIn l.self l.procs (stretch_of 0 l.first) l.values l.fn.rows l.rows;
}

abbrev pub decreases-loop-first : goal.decreases-loop-first
decreases-loop-first l = length l.targets - l.first
