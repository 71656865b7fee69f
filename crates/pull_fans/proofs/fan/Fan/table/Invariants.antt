use Rattle.std.proofs.Common.{◌≡◌}
use Rattle.pull_fans.specs.Fans.{column}
use Rattle.pull_fans.proofs.fan.Fan.table.Given as goal

abbrev pub invariant-loop-x : goal.invariant-loop-x
invariant-loop-x l = l.table ≡ column l.self-inside.width l.x l.self-inside.entries.items l.place
