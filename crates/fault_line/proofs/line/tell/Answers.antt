use Rattle.std.proofs.Common.{ap, sym, subst, ◌++◌, List, ℕ, ◌∙◌}
use Rattle.std.specs.Prelude.{Option}
use Rattle.pota_base.specs.Changes.{change_of}
use Rattle.fault_line.specs.declared.fault.Fault.{Fault}
use Rattle.fault_line.specs.Lines.{Told, line_by}
use Rattle.fault_line.proofs.Telling.{told_line}
use Rattle.fault_line.proofs.line.tell.Goals as goal

pub returns : goal.returns
returns g c =
    let told = told_line c.write_all.result (g.D.Sink.held c.args.diag.now) (g.D.Sink.held c.write_all.new.out) (g.D.Sink.faults c.args.diag.now) (g.D.Sink.faults c.write_all.new.out)
    c.in-Some.fault c.args.program.now _ _ _ _ c.as_slice.result.now (c.push.ensures ∙ ap (λ (x : List ℕ). x ++ c.args.program.now) c.new-line.ensures) c.push-2.ensures c.put_cause.ensures.text c.push-3.ensures c.as_slice.ensures
    c.write_all.ensures.whole c.write_all.ensures.part c.write_all.ensures.cause in
    subst (λ (f : Option Fault). Told (change_of (g.D.Sink.held c.args.diag.now) (g.D.Sink.held c.write_all.new.out) (g.D.Sink.faults c.args.diag.now) (g.D.Sink.faults c.write_all.new.out)) (line_by c.args.program.now f)) (sym c.in-Some.is) told
