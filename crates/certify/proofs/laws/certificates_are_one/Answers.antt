use Rattle.certify.proofs.Accepting.{one_text, one_told}
use Rattle.certify.proofs.laws.certificates_are_one.Goals as goal

pub returns-clause-text : goal.returns-clause-text
returns-clause-text c = one_text

pub returns-clause-verdict : goal.returns-clause-verdict
returns-clause-verdict c = one_told
