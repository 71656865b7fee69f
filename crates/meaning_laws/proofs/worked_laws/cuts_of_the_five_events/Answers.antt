use Rattle.std.proofs.Common.{refl, [], ◌∷◌}
use Rattle.run_model.specs.Cut.{lengths, initial, min_cut, max_cut}
use Rattle.run_model.specs.Run.{assigned, state_from, states_from}
use Rattle.run_model.specs.Consistent.{clock}
use Rattle.run_model.specs.Meaning.{in_transit}
use Rattle.run_model.specs.Class.{is_conjunctive, is_disjunctive, is_plain, processes}
use Rattle.run_model.specs.Slice.{edges_of}
use Rattle.run_model.specs.Worked.{cut, five_events}
use Rattle.run_model.proofs.Counts.{total}
use Rattle.meaning_laws.proofs.Listing.{holds}
use Rattle.meaning_laws.proofs.WorkedLemmas.{cuts_by_listing}
use Rattle.meaning_laws.proofs.worked_laws.cuts_of_the_five_events.Goals as goal

pub returns : goal.returns
unfolding clock lengths initial min_cut max_cut assigned state_from states_from in_transit total holds edges_of is_conjunctive is_disjunctive is_plain processes
returns c = cuts_by_listing five_events (cut 0 0 ∷ cut 1 0 ∷ cut 1 1 ∷ cut 1 2 ∷ cut 2 0 ∷ cut 2 1 ∷ cut 2 2 ∷ cut 3 2 ∷ []) refl
