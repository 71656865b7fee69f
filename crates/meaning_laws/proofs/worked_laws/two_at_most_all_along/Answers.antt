use Rattle.std.proofs.Common.{refl, true, [], ◌∷◌}
use Rattle.run_model.specs.Cut.{lengths, initial, min_cut, max_cut}
use Rattle.run_model.specs.Run.{assigned, state_from, states_from}
use Rattle.run_model.specs.Consistent.{clock}
use Rattle.run_model.specs.Formula.{Temporal, Eg}
use Rattle.run_model.specs.Meaning.{in_transit}
use Rattle.run_model.specs.Class.{is_conjunctive, is_disjunctive, is_plain, processes}
use Rattle.run_model.specs.Slice.{edges_of}
use Rattle.run_model.specs.Worked.{cut, five_events, x_at_most, at, path_to}
use Rattle.run_model.proofs.Counts.{total}
use Rattle.meaning_laws.proofs.Listing.{holds}
use Rattle.meaning_laws.proofs.WorkedLemmas.{verdict_by_listing, slice_by_listing}
use Rattle.meaning_laws.proofs.WorkedWitnesses.{stays_by_listing}
use Rattle.meaning_laws.proofs.worked_laws.two_at_most_all_along.Goals as goal

pub returns-clause-verdict : goal.returns-clause-verdict
unfolding clock lengths initial min_cut max_cut assigned state_from states_from in_transit total holds edges_of is_conjunctive is_disjunctive is_plain processes
returns-clause-verdict c = verdict_by_listing five_events (Temporal Eg (x_at_most 2)) true refl refl

pub returns-clause-slice : goal.returns-clause-slice
unfolding clock lengths initial min_cut max_cut assigned state_from states_from in_transit total holds edges_of is_conjunctive is_disjunctive is_plain processes
returns-clause-slice c = slice_by_listing five_events (Temporal Eg (x_at_most 2)) (cut 0 0) (cut 3 2) [] refl refl refl refl refl

pub returns-clause-witness : goal.returns-clause-witness
unfolding clock lengths initial min_cut max_cut assigned state_from states_from in_transit total holds edges_of is_conjunctive is_disjunctive is_plain processes
returns-clause-witness c = stays_by_listing five_events (x_at_most 2) (path_to (cut 3 2) (at 0 1 ∷ at 0 2 ∷ at 1 1 ∷ at 1 2 ∷ at 0 3 ∷ [])) refl refl refl refl
