use Rattle.std.proofs.Common.{refl, false, true}
use Rattle.run_model.specs.Cut.{initial, lengths, max_cut, min_cut}
use Rattle.run_model.specs.Run.{assigned, state_from, states_from}
use Rattle.run_model.specs.Consistent.{clock}
use Rattle.run_model.specs.Formula.{Ag, Ef, Eg, Not, Temporal}
use Rattle.run_model.specs.Meaning.{in_transit}
use Rattle.run_model.specs.Worked.{both, five_events, x_is, y_is}
use Rattle.run_model.proofs.Counts.{total}
use Rattle.meaning_laws.proofs.Listing.{holds}
use Rattle.meaning_laws.proofs.WorkedLemmas.{verdict_by_listing}
use Rattle.question_meaning.proofs.Worked.{always_worked, never_worked, no_can_worked, no_surely_worked}
use Rattle.question_meaning.proofs.worked_laws.true_nowhere_is_never.Goals as goal

pub returns-clause-never : goal.returns-clause-never
unfolding clock lengths initial min_cut max_cut assigned state_from states_from in_transit total holds
returns-clause-never c = never_worked five_events (both (x_is 0) (y_is 1)) refl (verdict_by_listing five_events (Temporal Ef (both (x_is 0) (y_is 1))) false refl refl)

pub returns-clause-can : goal.returns-clause-can
unfolding clock lengths initial min_cut max_cut assigned state_from states_from in_transit total holds
returns-clause-can c = no_can_worked five_events (both (x_is 0) (y_is 1)) refl (verdict_by_listing five_events (Temporal Ef (both (x_is 0) (y_is 1))) false refl refl)

pub returns-clause-surely : goal.returns-clause-surely
unfolding clock lengths initial min_cut max_cut assigned state_from states_from in_transit total holds
returns-clause-surely c = no_surely_worked five_events (both (x_is 0) (y_is 1)) refl (verdict_by_listing five_events (Temporal Eg (Not (both (x_is 0) (y_is 1)))) true refl refl)

pub returns-clause-always_not : goal.returns-clause-always_not
unfolding clock lengths initial min_cut max_cut assigned state_from states_from in_transit total holds
returns-clause-always_not c = always_worked five_events (Not (both (x_is 0) (y_is 1))) refl (verdict_by_listing five_events (Temporal Ag (Not (both (x_is 0) (y_is 1)))) true refl refl)
