use Rattle.std.proofs.Common.{Some, sym, subst}
use Rattle.pota_base.specs.Changes.{change_of}
use Rattle.fault_line.specs.Lines.{Told}
use Rattle.view_top.specs.declared.fault.Fault.{Fault}
use Rattle.view_top.specs.Faults.{line_of}
use Rattle.view_top.proofs.telling.tell.Goals as goal

pub returns-in-Usage : goal.returns-in-Usage
returns-in-Usage g c =
    subst (λ (f : Fault). Told (change_of (g.D.Sink.held c.args.diag.now) (g.D.Sink.held c.put.new.diag) (g.D.Sink.faults c.args.diag.now) (g.D.Sink.faults c.put.new.diag)) (line_of (Some f)))
    (sym c.in-Usage.is) c.put.ensures

pub returns-in-Log : goal.returns-in-Log
returns-in-Log g c =
    subst (λ (f : Fault). Told (change_of (g.D.Sink.held c.args.diag.now) (g.D.Sink.held c.put_shared.new.diag) (g.D.Sink.faults c.args.diag.now) (g.D.Sink.faults c.put_shared.new.diag)) (line_of (Some f)))
    (sym c.in-Log.is) c.put_shared.ensures

pub returns-in-Report : goal.returns-in-Report
returns-in-Report g c =
    subst (λ (f : Fault). Told (change_of (g.D.Sink.held c.args.diag.now) (g.D.Sink.held c.put_report_line.new.diag) (g.D.Sink.faults c.args.diag.now) (g.D.Sink.faults c.put_report_line.new.diag)) (line_of (Some f)))
    (sym c.in-Report.is) c.put_report_line.ensures

pub returns-in-TooLong : goal.returns-in-TooLong
returns-in-TooLong g c =
    subst (λ (f : Fault). Told (change_of (g.D.Sink.held c.args.diag.now) (g.D.Sink.held c.put-in-TooLong.new.diag) (g.D.Sink.faults c.args.diag.now) (g.D.Sink.faults c.put-in-TooLong.new.diag)) (line_of (Some f)))
    (sym c.in-TooLong.is) c.put-in-TooLong.ensures

pub returns-in-NoReport : goal.returns-in-NoReport
returns-in-NoReport g c =
    subst (λ (f : Fault). Told (change_of (g.D.Sink.held c.args.diag.now) (g.D.Sink.held c.put-in-NoReport.new.diag) (g.D.Sink.faults c.args.diag.now) (g.D.Sink.faults c.put-in-NoReport.new.diag)) (line_of (Some f)))
    (sym c.in-NoReport.is) c.put-in-NoReport.ensures

pub returns-in-OtherLog : goal.returns-in-OtherLog
returns-in-OtherLog g c =
    subst (λ (f : Fault). Told (change_of (g.D.Sink.held c.args.diag.now) (g.D.Sink.held c.put-in-OtherLog.new.diag) (g.D.Sink.faults c.args.diag.now) (g.D.Sink.faults c.put-in-OtherLog.new.diag)) (line_of (Some f)))
    (sym c.in-OtherLog.is) c.put-in-OtherLog.ensures

pub returns-in-Read : goal.returns-in-Read
returns-in-Read g c =
    subst (λ (f : Fault). Told (change_of (g.D.Sink.held c.args.diag.now) (g.D.Sink.held c.put_shared-in-Read.new.diag) (g.D.Sink.faults c.args.diag.now) (g.D.Sink.faults c.put_shared-in-Read.new.diag)) (line_of (Some f)))
    (sym c.in-Read.is) c.put_shared-in-Read.ensures

pub returns-in-Write : goal.returns-in-Write
returns-in-Write g c =
    subst (λ (f : Fault). Told (change_of (g.D.Sink.held c.args.diag.now) (g.D.Sink.held c.put_shared-in-Write.new.diag) (g.D.Sink.faults c.args.diag.now) (g.D.Sink.faults c.put_shared-in-Write.new.diag)) (line_of (Some f)))
    (sym c.in-Write.is) c.put_shared-in-Write.ensures

pub returns-in-Memory : goal.returns-in-Memory
returns-in-Memory g c =
    subst (λ (f : Fault). Told (change_of (g.D.Sink.held c.args.diag.now) (g.D.Sink.held c.put_shared-in-Memory.new.diag) (g.D.Sink.faults c.args.diag.now) (g.D.Sink.faults c.put_shared-in-Memory.new.diag)) (line_of (Some f)))
    (sym c.in-Memory.is) c.put_shared-in-Memory.ensures
