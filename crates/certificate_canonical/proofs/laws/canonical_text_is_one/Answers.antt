use Rattle.certificate_canonical.proofs.OneText.{one_next, is_front, one_whole, one_verdict}
use Rattle.certificate_canonical.proofs.laws.canonical_text_is_one.Goals as goal

pub returns-clause-line : goal.returns-clause-line
returns-clause-line c = one_next

pub returns-clause-front : goal.returns-clause-front
returns-clause-front c = is_front

pub returns-clause-whole : goal.returns-clause-whole
returns-clause-whole c = one_whole

pub returns-clause-verdict : goal.returns-clause-verdict
returns-clause-verdict c = one_verdict
