use Rattle.counter_preds.proofs.Staying.{none_joined}
use Rattle.counter_preds.proofs.laws.batches_without_a_fall_may_be_joined.Goals as goal

pub returns : goal.returns
returns c = none_joined
