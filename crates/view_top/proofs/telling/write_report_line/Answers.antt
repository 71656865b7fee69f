use Rattle.std.proofs.Common.{ℕ, List, [], ◌∷◌, ◌++◌, Err, subst, ◌∙◌}
use Rattle.std.specs.Prelude.{codes}
use Rattle.std.specs.Fmt.{decimal}
use Rattle.std.specs.Io.KnownBytes.{Appends}
use Rattle.pota_base.specs.Outside.{AppendsPrefix}
use Rattle.pota_base.specs.declared.fault.Failed.{Failed}
use Rattle.view_top.specs.inside.Telling.{Puts}
use Rattle.view_top.proofs.Lines.{first_fails, second_fails, third_put, report_line_is}
use Rattle.view_top.proofs.telling.write_report_line.Goals as goal

pub returns-in-Err : goal.returns-in-Err
returns-in-Err g c =
    subst (λ (t : List ℕ). Puts {T = Unit {0}} {E = Failed} (g.D.Sink.held c.args.diag.now) (g.D.Sink.held c.write_all.new.out) (g.D.Sink.faults c.args.diag.now) (g.D.Sink.faults c.write_all.new.out) t (Err c.in-Err.failed)) (report_line_is c.args.line)
    (first_fails (g.D.Sink.held c.args.diag.now) (g.D.Sink.held c.write_all.new.out) (g.D.Sink.faults c.args.diag.now) (g.D.Sink.faults c.write_all.new.out) (codes "pota_view: report line ") (decimal c.args.line ++ (codes ": bad line" ++ 10 ∷ []))
    c.in-Err.failed c.in-Err.failed c.in-Err.ensures.part c.in-Err.ensures.cause)

pub returns-in-Err-write_all : goal.returns-in-Err-write_all
returns-in-Err-write_all g c =
    let digits = c.as_bytes.ensures.value ∙ c.format.ensures.text in
    subst (λ (t : List ℕ). Puts {T = Unit {0}} {E = Failed} (g.D.Sink.held c.args.diag.now) (g.D.Sink.held c.write_all-2.new.out) (g.D.Sink.faults c.args.diag.now) (g.D.Sink.faults c.write_all-2.new.out) t (Err c.in-Err-write_all.failed)) (report_line_is c.args.line)
    (second_fails (g.D.Sink.held c.args.diag.now) (g.D.Sink.held c.write_all.new.out) (g.D.Sink.held c.write_all-2.new.out)
    (g.D.Sink.faults c.args.diag.now) (g.D.Sink.faults c.write_all.new.out) (g.D.Sink.faults c.write_all-2.new.out)
    (codes "pota_view: report line ") (decimal c.args.line) (codes ": bad line" ++ 10 ∷ [])
    c.in-Err-write_all.failed c.in-Err-write_all.failed c.in_default.ensures.whole c.in_default.ensures.calm
    (subst (AppendsPrefix (g.D.Sink.held c.write_all.new.out) (g.D.Sink.held c.write_all-2.new.out)) digits c.in-Err-write_all.ensures.part)
    c.in-Err-write_all.ensures.cause)

pub returns : goal.returns
returns g c =
    let digits = c.as_bytes.ensures.value ∙ c.format.ensures.text in
    subst (λ (t : List ℕ). Puts (g.D.Sink.held c.args.diag.now) (g.D.Sink.held c.write_all-3.new.out) (g.D.Sink.faults c.args.diag.now) (g.D.Sink.faults c.write_all-3.new.out) t c.write_all-3.result) (report_line_is c.args.line)
    (third_put (g.D.Sink.held c.args.diag.now) (g.D.Sink.held c.write_all.new.out) (g.D.Sink.held c.write_all-2.new.out) (g.D.Sink.held c.write_all-3.new.out)
    (g.D.Sink.faults c.args.diag.now) (g.D.Sink.faults c.write_all.new.out) (g.D.Sink.faults c.write_all-2.new.out) (g.D.Sink.faults c.write_all-3.new.out)
    (codes "pota_view: report line ") (decimal c.args.line) (codes ": bad line" ++ 10 ∷ []) c.write_all-3.result
    c.in_default.ensures.whole c.in_default.ensures.calm
    (subst (Appends (g.D.Sink.held c.write_all.new.out) (g.D.Sink.held c.write_all-2.new.out)) digits c.in_default-write_all.ensures.whole)
    c.in_default-write_all.ensures.calm c.write_all-3.ensures.whole c.write_all-3.ensures.part c.write_all-3.ensures.cause)
