use Rattle.report_lines.specs.Spelling.{step_line}
use Rattle.event_log.specs.LogText.{text_of}
use Rattle.std.proofs.Common.{map}
use Rattle.event_log.proofs.Appends.{puts_next_at}
use Rattle.report.proofs.WriteSteps.{mapped_append}
use Rattle.report.proofs.writing.put_steps.Goals as goal

pub loop-step-preserved : goal.loop-step-preserved
loop-step-preserved c = puts_next_at (λ xs. text_of (map (step_line c.args.procs.now) xs)) (mapped_append (step_line c.args.procs.now)) c.args.out.now c.loop-step.out c.put_step.new.out c.args.steps.now c.loop-step.step-index _ c.loop-step-test.true c.loop-step.invariant c.in_ok-put_step.ensures
