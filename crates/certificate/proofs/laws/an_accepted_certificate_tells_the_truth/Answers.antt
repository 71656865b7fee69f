use Rattle.certificate.proofs.Runs.{accepted_true}
use Rattle.certificate.proofs.laws.an_accepted_certificate_tells_the_truth.Goals as goal

pub returns : goal.returns
returns c = accepted_true
