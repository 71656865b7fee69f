use Rattle.std.proofs.Common.{◌++◌, List, ℕ, ap, ◌∙◌}
use Rattle.event_log.specs.LogText.{text_of}
use Rattle.event_log.proofs.Appends.{puts_next}
use Rattle.report.specs.Spelling.{lines_of_witnesses}
use Rattle.report.proofs.WriteSteps.{witnesses_append, one_witness}
use Rattle.report.proofs.writing.put_witnesses.Goals as goal

pub loop-witness-preserved : goal.loop-witness-preserved
loop-witness-preserved c = puts_next (λ xs. text_of (lines_of_witnesses c.args.procs.now xs)) (witnesses_append c.args.procs.now) c.args.out.now c.loop-witness.out c.put_witness_lines.new.out c.args.witnesses.now c.loop-witness.witness-index c.witness-item.result c.loop-witness-test.true c.witness-item.is c.loop-witness.invariant
    (c.in_ok-put_witness_lines.ensures ∙ ap (λ (t : List ℕ). c.loop-witness.out ++ t) (one_witness c.args.procs.now c.witness-item.result))
