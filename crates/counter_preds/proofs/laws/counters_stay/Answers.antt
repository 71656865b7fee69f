use Rattle.counter_preds.proofs.Staying.{counters_stay_lem}
use Rattle.counter_preds.proofs.laws.counters_stay.Goals as goal

pub returns : goal.returns
returns c = counters_stay_lem
