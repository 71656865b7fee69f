use Rattle.std.proofs.Common.{◌≡◌, map, take}
use Rattle.kept_log.specs.inside.Numbered.{ends_in}
use Rattle.kept_log.proofs.names.all_ends.Given as goal

abbrev pub invariant-loop-pair : goal.invariant-loop-pair
invariant-loop-pair l = l.ends ≡ map (ends_in l.header l.second) (take l.pair-index l.pairs)
