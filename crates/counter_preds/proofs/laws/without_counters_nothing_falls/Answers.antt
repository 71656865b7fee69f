use Rattle.counter_preds.proofs.Staying.{none_without}
use Rattle.counter_preds.proofs.laws.without_counters_nothing_falls.Goals as goal

pub returns : goal.returns
returns c = none_without
