use Rattle.certificate_input.proofs.PieceLaws.{told_refused, told_more, told_accepted}
use Rattle.certificate_input.proofs.input.CertificateInput.take_line.Goals as goal

pub returns-in-Refused : goal.returns-in-Refused
returns-in-Refused g c =
    told_refused g.N.Said.follows c.args.self.now c.args.end.now c.in_ok-number.number c.in-Refused.field-0 c.in_ok-check_line.field-0 c.check_line.new.self.text c.requires.ready c.in_ok-number.ensures.next
    c.if-is_over.ensures.within c.in-Refused.is c.in_ok-check_line.ensures.checked

pub returns-in-More : goal.returns-in-More
returns-in-More g c =
    told_more g.N.Said.follows c.args.self.now c.args.end.now c.in_ok-number.number c.in_ok-check_line.field-0 c.check_line.new.self.text c.pass-in-More.new.self c.requires.ready c.in_ok-number.ensures.next c.in_ok-number.ensures.counted
    c.if-is_over.ensures.within c.in-More.is c.in_ok-check_line.ensures.checked c.pass-in-More.ensures

pub returns-in-Accepted : goal.returns-in-Accepted
returns-in-Accepted g c =
    told_accepted g.N.Said.follows c.args.self.now c.args.end.now c.in_ok-number.number c.in-Accepted.told c.in_ok-check_line.field-0 c.check_line.new.self.text c.pass.new.self c.requires.ready
    c.in_ok-number.ensures.next c.in_ok-number.ensures.counted c.if-is_over.ensures.within c.in-Accepted.is c.in_ok-check_line.ensures.checked c.pass.ensures
