use Rattle.std.proofs.lemmas.Result.{IfOk-weaker}
use Rattle.certificate_input.proofs.PieceLaws.{line_goes_on, line_ends, bytes_end}
use Rattle.certificate_input.proofs.input.CertificateInput.take.Goals as goal

pub returns-in-Some-2 : goal.returns-in-Some-2
returns-in-Some-2 g c =
    line_ends g.N.Said.follows c.args.self.now c.args.piece.now c.lines.self c.take_line.new.self c.lines.rest.now c.lines.invariant
    c.in-Some.line.now c.in-Some.behind.now c.in-Some-2.refused c.in_ok-refused.field-0 c.in-Some.ensures.some.1 c.in-Some-2.is c.in_ok-refused.ensures

pub lines-preserved : goal.lines-preserved
lines-preserved g c =
    line_goes_on g.N.Said.follows c.args.self.now c.args.piece.now c.lines.self c.take_line.new.self c.lines.rest.now c.lines.invariant
    c.in-Some.line.now c.in-Some.behind.now c.in_ok-refused.field-0 c.in-Some.ensures.some.1 c.in_default-2.is c.in_ok-refused.ensures

pub returns : goal.returns
returns g c =
    IfOk-weaker c.take_bytes.result _ _ (λ t taken. bytes_end g.N.Said.follows c.args.self.now c.args.piece.now c.lines.self c.take_bytes.new.self c.lines.rest.now c.lines.invariant t taken) c.take_bytes.ensures
