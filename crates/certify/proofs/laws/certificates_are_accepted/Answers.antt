use Rattle.certify.proofs.Accepting.{certificate_accepted}
use Rattle.certify.proofs.laws.certificates_are_accepted.Goals as goal

pub returns : goal.returns
returns c = certificate_accepted
