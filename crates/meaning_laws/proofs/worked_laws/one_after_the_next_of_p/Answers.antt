use Rattle.std.proofs.Common.{refl, true, false, [], ◌∷◌}
use Rattle.run_model.specs.Cut.{lengths, initial, min_cut, max_cut}
use Rattle.run_model.specs.Run.{assigned, state_from, states_from}
use Rattle.run_model.specs.Consistent.{clock}
use Rattle.run_model.specs.Formula.{Truth, Temporal, Next, Ef, Ag, LessOrEqual, GreaterOrEqual}
use Rattle.run_model.specs.Meaning.{in_transit}
use Rattle.run_model.specs.Class.{is_conjunctive, is_disjunctive, is_plain, processes}
use Rattle.run_model.specs.Slice.{edges_of}
use Rattle.run_model.specs.Worked.{p, q, cut, five_events, x_is, y_is, x_less_y}
use Rattle.run_model.proofs.Counts.{total}
use Rattle.meaning_laws.proofs.Listing.{holds}
use Rattle.meaning_laws.proofs.WorkedLemmas.{verdict_by_listing, slice_by_listing}
use Rattle.meaning_laws.proofs.WorkedWitnesses.{next_by_listing, never_next_by_listing}
use Rattle.meaning_laws.proofs.worked_laws.one_after_the_next_of_p.Goals as goal

pub returns-clause-verdict : goal.returns-clause-verdict
unfolding clock lengths initial min_cut max_cut assigned state_from states_from in_transit total holds edges_of is_conjunctive is_disjunctive is_plain processes
returns-clause-verdict c = verdict_by_listing five_events (Next p (x_is 1)) true refl refl

pub returns-clause-slice : goal.returns-clause-slice
unfolding clock lengths initial min_cut max_cut assigned state_from states_from in_transit total holds edges_of is_conjunctive is_disjunctive is_plain processes
returns-clause-slice c = slice_by_listing five_events (Next p (x_is 1)) (cut 0 0) (cut 0 0) [] refl refl refl refl refl

pub returns-clause-witness : goal.returns-clause-witness
unfolding clock lengths initial min_cut max_cut assigned state_from states_from in_transit total holds edges_of is_conjunctive is_disjunctive is_plain processes
returns-clause-witness c = next_by_listing five_events (x_is 1) 0 refl refl refl refl
