use Rattle.std.proofs.Common.{◌≡◌, ◌++◌}
use Rattle.view_parts.specs.Each.{each_below}
use Rattle.view_text.specs.Text.{named_row}
use Rattle.view_text.proofs.values.put_process_rows.Given as goal

abbrev pub invariant-loop-variable : goal.invariant-loop-variable
invariant-loop-variable l = l.out ≡ l.fn.out ++ each_below l.variable (named_row l.states l.tokens l.cut l.process)
