use Rattle.std.proofs.Common.{refl, false, true}
use Rattle.run_model.specs.Cut.{initial, lengths, max_cut, min_cut}
use Rattle.run_model.specs.Run.{assigned, state_from, states_from}
use Rattle.run_model.specs.Consistent.{clock}
use Rattle.run_model.specs.Formula.{Ef, Eg, Not, Temporal}
use Rattle.run_model.specs.Meaning.{in_transit}
use Rattle.run_model.specs.Worked.{both, one_of, two_events, x_is, y_is}
use Rattle.run_model.proofs.Counts.{total}
use Rattle.meaning_laws.proofs.Listing.{holds}
use Rattle.meaning_laws.proofs.WorkedLemmas.{verdict_by_listing}
use Rattle.question_meaning.proofs.Worked.{can_worked, no_never_worked, no_surely_worked, surely_worked}
use Rattle.question_meaning.proofs.worked_laws.some_order_is_not_each_order.Goals as goal

pub returns-clause-can : goal.returns-clause-can
unfolding clock lengths initial min_cut max_cut assigned state_from states_from in_transit total holds
returns-clause-can c = can_worked two_events (both (x_is 1) (y_is 0)) refl (verdict_by_listing two_events (Temporal Ef (both (x_is 1) (y_is 0))) true refl refl)

pub returns-clause-surely : goal.returns-clause-surely
unfolding clock lengths initial min_cut max_cut assigned state_from states_from in_transit total holds
returns-clause-surely c = no_surely_worked two_events (both (x_is 1) (y_is 0)) refl (verdict_by_listing two_events (Temporal Eg (Not (both (x_is 1) (y_is 0)))) true refl refl)

pub returns-clause-never : goal.returns-clause-never
unfolding clock lengths initial min_cut max_cut assigned state_from states_from in_transit total holds
returns-clause-never c = no_never_worked two_events (both (x_is 1) (y_is 0)) refl (verdict_by_listing two_events (Temporal Ef (both (x_is 1) (y_is 0))) true refl refl)

pub returns-clause-surely_one : goal.returns-clause-surely_one
unfolding clock lengths initial min_cut max_cut assigned state_from states_from in_transit total holds
returns-clause-surely_one c = surely_worked two_events (x_is 1) refl (verdict_by_listing two_events (Temporal Eg (Not (x_is 1))) false refl refl)

pub returns-clause-surely_one_of_two : goal.returns-clause-surely_one_of_two
unfolding clock lengths initial min_cut max_cut assigned state_from states_from in_transit total holds
returns-clause-surely_one_of_two c = surely_worked two_events (one_of (both (x_is 1) (y_is 0)) (both (x_is 0) (y_is 1))) refl (verdict_by_listing two_events (Temporal Eg (Not (one_of (both (x_is 1) (y_is 0)) (both (x_is 0) (y_is 1))))) false refl refl)
