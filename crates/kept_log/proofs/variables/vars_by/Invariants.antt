use Rattle.std.proofs.Common.{◌≡◌, take}
use Rattle.kept_log.specs.inside.Numbered.{vars_by}
use Rattle.kept_log.proofs.variables.vars_by.Given as goal

abbrev pub invariant-loop-process : goal.invariant-loop-process
invariant-loop-process l = l.kept ≡ vars_by l.numbers 0 (take l.process l.vars)
