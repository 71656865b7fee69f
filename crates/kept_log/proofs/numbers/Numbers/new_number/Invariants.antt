use Rattle.std.proofs.Common.{◌≡◌}
use Rattle.kept_runs.specs.Chosen.{new_number}
use Rattle.kept_log.specs.inside.Numbered.{is_kept_variable}
use Rattle.kept_log.proofs.numbers.Numbers.new_number.Given as goal

abbrev pub invariant-loop-before : goal.invariant-loop-before
invariant-loop-before l = l.number ≡ new_number (is_kept_variable l.self l.process) l.before
