use Rattle.certificate_existence.proofs.Lines.{certificate_there}
use Rattle.certificate_existence.proofs.a_certificate_is_there.Goals as goal

pub returns : goal.returns
returns c = certificate_there
