use Rattle.std.proofs.Common.{◌≡◌, ◌<◌, ◌++◌, List, length, map}
use Rattle.std.specs.List.{range_with_len}
use Rattle.pull_system.specs.declared.pull.Pull.{Pull}
use Rattle.pull_fans.specs.Fans.{FanView, pull_of_fan}
use Rattle.pull_fans.specs.inside.Places.{ArePlaces, fan_at}
use Rattle.pull_fans.proofs.places.push_places.Given as goal

abbrev pub invariant-loop-index : goal.invariant-loop-index
invariant-loop-index l = (fans : List FanView) (pulls : List Pull) → l.number < length fans → fan_at fans l.number ≡ l.fan → ArePlaces fans l.fn.places pulls
    → ArePlaces fans l.places (pulls ++ map (pull_of_fan l.fan) (range_with_len 0 l.index))
