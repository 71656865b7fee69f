use Rattle.std.proofs.Common.{All, take}
use Rattle.pull_fans.specs.Fans.{pulls_of_fans}
use Rattle.pull_fans.specs.inside.First.{IsFromOther}
use Rattle.pull_fans.proofs.lone.first_from.Given as goal

abbrev pub invariant-loop-number : goal.invariant-loop-number
invariant-loop-number l = All (IsFromOther l.process) (pulls_of_fans (take l.number l.fans))
