use Rattle.view_parts.proofs.Each.{puts_each}
use Rattle.view_text.specs.Text.{named_row}
use Rattle.view_text.proofs.values.put_process_rows.Goals as goal

pub loop-variable-preserved : goal.loop-variable-preserved
loop-variable-preserved c = puts_each (named_row c.args.states.now c.args.tokens.now c.args.cut.now c.args.process) c.args.out.now c.loop-variable.out c.put_named_row.new.out c.loop-variable.variable c.loop-variable.invariant c.in_ok-put_named_row.ensures
