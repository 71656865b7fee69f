use Rattle.std.proofs.Common.{refl, false, true}
use Rattle.run_model.specs.Cut.{initial, lengths, max_cut, min_cut}
use Rattle.run_model.specs.Run.{assigned, state_from, states_from}
use Rattle.run_model.specs.Consistent.{clock}
use Rattle.run_model.specs.Formula.{Ag, Ef, Eg, Not, Temporal}
use Rattle.run_model.specs.Meaning.{in_transit}
use Rattle.run_model.specs.Worked.{five_events, x_is}
use Rattle.run_model.proofs.Counts.{total}
use Rattle.meaning_laws.proofs.Listing.{holds}
use Rattle.meaning_laws.proofs.WorkedLemmas.{verdict_by_listing}
use Rattle.question_meaning.proofs.Worked.{at_end_worked, no_at_end_worked, surely_worked}
use Rattle.question_meaning.proofs.worked_laws.the_end_is_no_moment_before.Goals as goal

pub returns-clause-at_end : goal.returns-clause-at_end
unfolding clock lengths initial min_cut max_cut assigned state_from states_from in_transit total holds
returns-clause-at_end c = at_end_worked five_events (x_is 2) refl (verdict_by_listing five_events (Temporal Ag (Temporal Ef (x_is 2))) true refl refl)

pub returns-clause-not_at_end : goal.returns-clause-not_at_end
unfolding clock lengths initial min_cut max_cut assigned state_from states_from in_transit total holds
returns-clause-not_at_end c = no_at_end_worked five_events (x_is 1) refl (verdict_by_listing five_events (Temporal Ag (Temporal Ef (x_is 1))) false refl refl)

pub returns-clause-on_the_way : goal.returns-clause-on_the_way
unfolding clock lengths initial min_cut max_cut assigned state_from states_from in_transit total holds
returns-clause-on_the_way c = surely_worked five_events (x_is 1) refl (verdict_by_listing five_events (Temporal Eg (Not (x_is 1))) false refl refl)

pub returns-clause-at_the_start : goal.returns-clause-at_the_start
unfolding clock lengths initial min_cut max_cut assigned state_from states_from in_transit total holds
returns-clause-at_the_start c = verdict_by_listing five_events (x_is 0) true refl refl

pub returns-clause-not_at_the_start : goal.returns-clause-not_at_the_start
unfolding clock lengths initial min_cut max_cut assigned state_from states_from in_transit total holds
returns-clause-not_at_the_start c = verdict_by_listing five_events (x_is 2) false refl refl
