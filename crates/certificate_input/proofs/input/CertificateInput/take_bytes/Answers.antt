use Rattle.certificate_input.proofs.PieceLaws.{bytes_refused}
use Rattle.certificate_input.proofs.input.CertificateInput.take_bytes.Goals as goal

pub returns-then-is_over : goal.returns-then-is_over
returns-then-is_over g c =
    bytes_refused g.N.Said.follows c.args.self.now c.args.bytes.now c.in_ok-number.number c.requires.ready c.in_ok-number.ensures.next (c.if-is_over.ensures.over)
