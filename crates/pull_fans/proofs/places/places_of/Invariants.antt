use Rattle.std.proofs.Common.{take}
use Rattle.pull_fans.specs.Fans.{pulls_of_fans}
use Rattle.pull_fans.specs.inside.Places.{ArePlaces}
use Rattle.pull_fans.proofs.places.places_of.Given as goal

abbrev pub invariant-loop-number : goal.invariant-loop-number
invariant-loop-number l = ArePlaces l.fans l.places (pulls_of_fans (take l.number l.fans))
