use Rattle.std.proofs.Common.{◌≡◌, None, Some, length, arith}
use Rattle.std.proofs.lemmas.Grind.{common_steps}
use Rattle.certificate_input.proofs.PieceLaws.{behind_is_over, long_is_over, short_is_within}
use Rattle.certificate_input.proofs.input.CertificateInput.is_over.Goals as goal

pub returns-in-Some-clause-over : goal.returns-in-Some-clause-over
returns-in-Some-clause-over g c =
    let truth : c.args.self.now.accepted ≡ Some c.in-Some.field-0 = cc in
    behind_is_over g.N.Said.follows c.args.self.now c.args.bytes.now c.in-Some.field-0 c.is_empty.result c.requires.ready c.requires.plain truth c.is_empty.ensures

pub returns-in-None-clause-over : goal.returns-in-None-clause-over
returns-in-None-clause-over g c =
    let open_ : c.args.self.now.accepted ≡ None = cc in
    let count : c.len.result ≡ length c.args.self.now.line = grind (arith, common_steps) in
    long_is_over g.N.Said.follows c.args.self.now c.args.bytes.now c.len.result c.requires.ready c.requires.plain open_ count

pub returns-in-None-clause-within : goal.returns-in-None-clause-within
returns-in-None-clause-within g c =
    let open_ : c.args.self.now.accepted ≡ None = cc in
    let count : c.len.result ≡ length c.args.self.now.line = grind (arith, common_steps) in
    short_is_within g.N.Said.follows c.args.self.now c.args.bytes.now c.len.result c.requires.ready c.requires.plain open_ count
