use Rattle.std.proofs.Common.{◌≡◌, take}
use Rattle.kept_runs.specs.Chosen.{chosen}
use Rattle.kept_log.specs.inside.Numbered.{is_kept_variable}
use Rattle.kept_log.proofs.variables.bindings_by.Given as goal

abbrev pub invariant-loop-variable : goal.invariant-loop-variable
invariant-loop-variable l = l.kept ≡ chosen (is_kept_variable l.numbers l.process) (take l.variable l.bindings)
