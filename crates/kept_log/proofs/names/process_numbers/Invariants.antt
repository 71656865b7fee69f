use Rattle.std.proofs.Common.{◌≡◌, map, take}
use Rattle.kept_log.specs.inside.Numbered.{process_in}
use Rattle.kept_log.proofs.names.process_numbers.Given as goal

abbrev pub invariant-loop-name : goal.invariant-loop-name
invariant-loop-name l = l.numbers ≡ map (process_in l.header) (take l.name-index l.names)
