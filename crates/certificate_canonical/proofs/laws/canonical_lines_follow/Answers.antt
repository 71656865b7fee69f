use Rattle.certificate_canonical.proofs.Following.{line_follows, all_follow}
use Rattle.certificate_canonical.proofs.laws.canonical_lines_follow.Goals as goal

pub returns-clause-line : goal.returns-clause-line
returns-clause-line c = line_follows

pub returns-clause-lines : goal.returns-clause-lines
returns-clause-lines c = all_follow
