use Rattle.pull_fans.specs.inside.Asks.{AreRaisedIn, stretch_of}
use Rattle.pull_fans.proofs.fan.Fan.raise_run.Given as goal

abbrev pub invariant-loop-x : goal.invariant-loop-x
invariant-loop-x l = AreRaisedIn l.self l.procs (stretch_of l.first l.end) l.x l.fn.rows l.rows
