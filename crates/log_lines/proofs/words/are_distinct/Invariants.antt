use Rattle.std.proofs.Common.{◌≡◌, map, length}
use Rattle.log_lines.specs.Names.{are_distinct}
use Rattle.log_lines.proofs.words.are_distinct.Given as goal

abbrev pub invariant-loop-rest : goal.invariant-loop-rest
invariant-loop-rest g l = are_distinct (map g.T.Named.name l.fn.items) ≡ are_distinct (map g.T.Named.name l.rest)

abbrev pub decreases-loop-rest : goal.decreases-loop-rest
decreases-loop-rest g l = length l.rest
