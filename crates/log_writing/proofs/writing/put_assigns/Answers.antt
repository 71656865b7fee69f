use Rattle.log_lines.specs.Spelling.{values_text}
use Rattle.event_log.specs.LogText.{named_values}
use Rattle.event_log.proofs.Appends.{assigns_append, puts_next_at}
use Rattle.log_writing.proofs.writing.put_assigns.Goals as goal

pub loop-assign-preserved : goal.loop-assign-preserved
loop-assign-preserved c = puts_next_at (λ xs. values_text (named_values c.args.variables.now xs)) (assigns_append c.args.variables.now) c.args.out.now c.loop-assign.out c.put_assign.new.out c.args.assigns.now c.loop-assign.assign-index _ c.loop-assign-test.true c.loop-assign.invariant c.in_ok-put_assign.ensures
