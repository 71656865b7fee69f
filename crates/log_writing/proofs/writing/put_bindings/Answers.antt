use Rattle.log_lines.specs.Spelling.{values_text}
use Rattle.event_log.specs.LogText.{values_of}
use Rattle.event_log.proofs.Appends.{bindings_append, puts_next}
use Rattle.log_writing.proofs.writing.put_bindings.Goals as goal

pub loop-binding-preserved : goal.loop-binding-preserved
loop-binding-preserved c = puts_next (λ xs. values_text (values_of xs)) bindings_append c.args.out.now c.loop-binding.out c.put_binding.new.out c.args.bindings.now c.loop-binding.binding-index c.binding-item.result c.loop-binding-test.true c.binding-item.is c.loop-binding.invariant c.in_ok-put_binding.ensures
