use Rattle.std.proofs.Common.{◌≡◌, ◌++◌}
use Rattle.view_parts.specs.Each.{each_below}
use Rattle.view_text.specs.Text.{process_rows}
use Rattle.view_text.proofs.values.put_value_rows.Given as goal

abbrev pub invariant-loop-process : goal.invariant-loop-process
invariant-loop-process l = l.out ≡ l.fn.out ++ each_below l.process (process_rows l.states l.tokens l.cut)
