use Rattle.counter_preds.proofs.Staying.{opened_counter}
use Rattle.counter_preds.proofs.laws.a_header_has_counters.Goals as goal

pub returns : goal.returns
returns c = opened_counter
