use Rattle.view_top.specs.inside.Faults.{report_line}
use Rattle.view_top.proofs.Lines.{told_text}
use Rattle.view_top.proofs.telling.put_report_line.Goals as goal

pub returns : goal.returns
returns g c =
    told_text c.write_report_line.result (g.D.Sink.held c.args.diag.now) (g.D.Sink.held c.write_report_line.new.diag) (g.D.Sink.faults c.args.diag.now) (g.D.Sink.faults c.write_report_line.new.diag)
    (report_line c.args.line) c.write_report_line.ensures.whole c.write_report_line.ensures.part c.write_report_line.ensures.cause
