use Rattle.std.proofs.Common.{◌∙◌}
use Rattle.log_answers.proofs.Reporting.{summary_short, summary_whole, summary_part}
use Rattle.log_answers.proofs.checking.Checking.sum_up.Goals as goal

pub returns-in-Err : goal.returns-in-Err
returns-in-Err g c aim j log is closed benches =
    summary_part aim c.args.self.now.check.log.intake.batches log c.args.sizes (g.O.Sink.held c.args.out.now)
    (g.O.Sink.held c.put.new.out) (g.O.Sink.faults c.args.out.now) (g.O.Sink.faults c.put.new.out)
    c.in-Ok.report benches (c.in-Ok.ensures.says aim j log is closed) c.in-Err.stop c.as_slice.result.now
    (c.as_slice.ensures ∙ c.in-Ok-write_summary.ensures)
    c.in-Err.ensures

pub returns : goal.returns
returns g c aim j log is closed benches =
    summary_whole aim c.args.self.now.check.log.intake.batches log c.args.sizes (g.O.Sink.held c.args.out.now)
    (g.O.Sink.held c.put.new.out) (g.O.Sink.faults c.args.out.now) (g.O.Sink.faults c.put.new.out)
    c.in-Ok.report benches (c.in-Ok.ensures.says aim j log is closed) c.in_default-put.field-0 c.verdict.result
    c.verdict.ensures c.as_slice.result.now
    (c.as_slice.ensures ∙ c.in-Ok-write_summary.ensures)
    c.in_default-put.ensures

pub returns-in_default-write_summary : goal.returns-in_default-write_summary
returns-in_default-write_summary g c aim j log is closed benches =
    summary_short aim c.args.self.now.check.log.intake.batches log c.args.sizes (g.O.Sink.held c.args.out.now)
    (g.O.Sink.faults c.args.out.now) c.without_memory-in_default-write_summary.result
    c.without_memory-in_default-write_summary.ensures
