use Rattle.counter_preds.proofs.Clockless.{same_fall}
use Rattle.counter_preds.proofs.laws.clocks_make_no_fall.Goals as goal

pub returns : goal.returns
returns c = same_fall
