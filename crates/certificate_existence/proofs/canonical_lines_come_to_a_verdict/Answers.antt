use Rattle.certificate_existence.proofs.Lines.{whole_there}
use Rattle.certificate_existence.proofs.canonical_lines_come_to_a_verdict.Goals as goal

pub returns : goal.returns
returns c = whole_there
