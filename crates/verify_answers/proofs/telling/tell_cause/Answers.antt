use Rattle.std.proofs.Common.{Some, sym, subst}
use Rattle.pota_base.specs.Changes.{change_of}
use Rattle.fault_line.specs.declared.fault.Fault.{Fault}
use Rattle.fault_line.specs.Lines.{Told}
use Rattle.verify_answers.specs.Telling.{fault_line_of, usage_line}
use Rattle.verify_answers.proofs.ToldAnswers.{told_text, other_line}
use Rattle.verify_answers.proofs.telling.tell_cause.Goals as goal

pub returns-in-Usage : goal.returns-in-Usage
returns-in-Usage g c =
    let told = told_text c.write_all.result (g.D.Sink.held c.args.diag.now) (g.D.Sink.held c.write_all.new.out) (g.D.Sink.faults c.args.diag.now) (g.D.Sink.faults c.write_all.new.out) usage_line
    c.write_all.ensures.whole c.write_all.ensures.part c.write_all.ensures.cause in
    subst (λ (f : Fault). Told (change_of (g.D.Sink.held c.args.diag.now) (g.D.Sink.held c.write_all.new.out) (g.D.Sink.faults c.args.diag.now) (g.D.Sink.faults c.write_all.new.out)) (fault_line_of (Some f)))
    (sym c.in-Usage.is) told

pub returns-in_default : goal.returns-in_default
returns-in_default g c =
    subst (Told (change_of (g.D.Sink.held c.args.diag.now) (g.D.Sink.held c.tell.new.diag) (g.D.Sink.faults c.args.diag.now) (g.D.Sink.faults c.tell.new.diag))) (other_line c.args.fault.now c.in_default.not-Usage) c.tell.ensures
