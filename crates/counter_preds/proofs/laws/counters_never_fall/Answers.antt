use Rattle.counter_preds.proofs.Meaning.{never_falls}
use Rattle.counter_preds.proofs.laws.counters_never_fall.Goals as goal

pub returns : goal.returns
returns c = never_falls
