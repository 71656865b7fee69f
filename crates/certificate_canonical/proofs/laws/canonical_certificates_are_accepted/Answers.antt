use Rattle.certificate_canonical.proofs.Following.{whole_accepted}
use Rattle.certificate_canonical.proofs.laws.canonical_certificates_are_accepted.Goals as goal

pub returns : goal.returns
returns c = whole_accepted
