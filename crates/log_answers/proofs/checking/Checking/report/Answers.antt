use Rattle.std.proofs.Common.{◌∙◌}
use Rattle.log_answers.proofs.Reporting.{count_closed, report_whole, report_part}
use Rattle.log_answers.proofs.checking.Checking.report.Goals as goal

pub returns-in-Err-clause-reports : goal.returns-in-Err-clause-reports
returns-in-Err-clause-reports g c aim j log is closed before text texts =
    report_part aim c.args.self.now.check.log.intake.batches before log text texts (g.O.Sink.held c.args.out.now)
    (g.O.Sink.held c.put.new.out) (g.O.Sink.faults c.args.out.now) (g.O.Sink.faults c.put.new.out)
    c.in-Ok.report (c.in-Ok.ensures.says aim j log is closed) c.in-Err.stop
    (count_closed c.args.self.now.check.log.intake.batches j log is.log.intake.batches closed) c.as_slice.result.now
    (c.as_slice.ensures ∙ c.in-Ok-write_report.ensures) c.in-Err.ensures

pub returns-clause-reports : goal.returns-clause-reports
returns-clause-reports g c aim j log is closed before text texts =
    report_whole aim c.args.self.now.check.log.intake.batches before log text texts (g.O.Sink.held c.args.out.now)
    (g.O.Sink.held c.put.new.out) (g.O.Sink.faults c.args.out.now) (g.O.Sink.faults c.put.new.out)
    c.in-Ok.report (c.in-Ok.ensures.says aim j log is closed) c.in_default-put.field-0 c.verdict.result
    c.verdict.ensures c.as_slice.result.now (c.as_slice.ensures ∙ c.in-Ok-write_report.ensures)
    c.in_default-put.ensures
