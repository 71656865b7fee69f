use Rattle.std.proofs.Common.{◌≡◌, get_or, map, take}
use Rattle.pull_fans.proofs.growing.gather.Given as goal

abbrev pub invariant-loop-place : goal.invariant-loop-place
invariant-loop-place l = l.numbers.items ≡ map (λ place. get_or l.row place 0) (take l.place-index l.places)
