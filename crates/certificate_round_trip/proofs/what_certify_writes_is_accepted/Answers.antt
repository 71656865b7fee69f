use Rattle.log_check.specs.Checked.{observed_alone}
use Rattle.call_promise.specs.Certificates.{disjuncts_on, line_of}
use Rattle.certificate_round_trip.proofs.Behind.{accepted_behind}
use Rattle.certificate_round_trip.proofs.what_certify_writes_is_accepted.Goals as goal

pub returns : goal.returns
returns c = λ words t asks watches bytes text w.
    accepted_behind watches t bytes text w words asks
    (c.certificates_are_accepted.ensures (observed_alone w.log) (disjuncts_on w.log t) (line_of t) text w.certificate.told
    (c.formula_lines_are_lines.ensures asks.text t asks.is_read.read asks.is_read.short) w.certificate.is)
