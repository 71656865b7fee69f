use Rattle.pull_fans.proofs.LongerFans.{AreLonger}
use Rattle.pull_fans.proofs.growing.longer_fan.Given as goal

abbrev pub invariant-loop-x : goal.invariant-loop-x
invariant-loop-x l = AreLonger l.fn.fan l.stay l.procs l.x l.more l.fan
