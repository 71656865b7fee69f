use Rattle.std.proofs.Common.{Option, sym, subst}
use Rattle.pota_base.specs.Changes.{change_of}
use Rattle.fault_line.specs.Lines.{Told}
use Rattle.view_top.specs.declared.fault.Fault.{Fault}
use Rattle.view_top.specs.Faults.{line_of}
use Rattle.view_top.proofs.Lines.{untold}
use Rattle.view_top.proofs.top.view.Goals as goal

pub returns-in_default-clause-told : goal.returns-in_default-clause-told
returns-in_default-clause-told g c =
    subst (λ (f : Option Fault). Told (change_of (g.D.Sink.held c.args.diag.now) (g.D.Sink.held c.args.diag.now) (g.D.Sink.faults c.args.diag.now) (g.D.Sink.faults c.args.diag.now)) (line_of f))
    (sym c.in_default.is) (untold (g.D.Sink.held c.args.diag.now) (g.D.Sink.faults c.args.diag.now))
