use Rattle.std.proofs.Common.{refl, true, false}
use Rattle.run_model.specs.Cut.{lengths, initial, min_cut, max_cut}
use Rattle.run_model.specs.Run.{assigned, state_from, states_from}
use Rattle.run_model.specs.Consistent.{clock}
use Rattle.run_model.specs.Formula.{Temporal, Ef}
use Rattle.run_model.specs.Meaning.{in_transit}
use Rattle.run_model.specs.Class.{is_conjunctive, is_disjunctive, is_plain, processes}
use Rattle.run_model.specs.Slice.{edges_of}
use Rattle.run_model.specs.Worked.{two_events, x_is, y_is, both}
use Rattle.run_model.proofs.Counts.{total}
use Rattle.meaning_laws.proofs.Listing.{holds}
use Rattle.meaning_laws.proofs.WorkedLemmas.{verdict_by_listing}
use Rattle.meaning_laws.proofs.worked_laws.one_before_the_other.Goals as goal

pub returns-clause-reached : goal.returns-clause-reached
unfolding clock lengths initial min_cut max_cut assigned state_from states_from in_transit total holds edges_of is_conjunctive is_disjunctive is_plain processes
returns-clause-reached c = verdict_by_listing two_events (Temporal Ef (both (x_is 1) (y_is 0))) true refl refl

pub returns-clause-not_reached : goal.returns-clause-not_reached
unfolding clock lengths initial min_cut max_cut assigned state_from states_from in_transit total holds edges_of is_conjunctive is_disjunctive is_plain processes
returns-clause-not_reached c = verdict_by_listing two_events (Temporal Ef (both (x_is 2) (y_is 1))) false refl refl
