use Rattle.std.proofs.Common.{◌≡◌}
use Rattle.pull_fans.specs.Sources.{numbers_from}
use Rattle.pull_fans.specs.Fans.{pulls_of_fans}
use Rattle.pull_fans.proofs.places.numbers_from.Given as goal

abbrev pub invariant-loop-k : goal.invariant-loop-k
invariant-loop-k l = l.numbers ≡ numbers_from (pulls_of_fans l.fans) l.process l.k
