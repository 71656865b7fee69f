use Rattle.conjunctions.proofs.KeptCounters.{kept_for}
use Rattle.conjunctions.proofs.laws.counters_are_kept.Goals as goal

pub returns : goal.returns
returns c = kept_for
