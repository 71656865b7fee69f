use Rattle.rctl_class.proofs.Kept.{kept_stays, stays_kept, disjuncts_kept_stay}
use Rattle.rctl_class.proofs.laws.counters_are_what_is_asked.Goals as goal

pub returns-clause-formula : goal.returns-clause-formula
returns-clause-formula c r f = (kept_stays r f, stays_kept r f)

pub returns-clause-disjuncts : goal.returns-clause-disjuncts
returns-clause-disjuncts c = disjuncts_kept_stay
