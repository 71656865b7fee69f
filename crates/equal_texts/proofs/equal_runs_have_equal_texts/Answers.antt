use Rattle.equal_texts.proofs.Dues.{equal_dues}
use Rattle.equal_texts.proofs.equal_runs_have_equal_texts.Goals as goal

pub returns : goal.returns
returns c = equal_dues
