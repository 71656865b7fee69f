use Rattle.std.proofs.Common.{refl}
use Rattle.run_model.specs.Cut.{lengths, initial, min_cut, max_cut}
use Rattle.run_model.specs.Run.{assigned, state_from, states_from}
use Rattle.run_model.specs.Consistent.{clock}
use Rattle.run_model.specs.Meaning.{in_transit}
use Rattle.run_model.specs.Class.{is_conjunctive, is_disjunctive, is_plain, processes}
use Rattle.run_model.specs.Slice.{edges_of}
use Rattle.run_model.specs.Worked.{five_events, two_events, first_two_events, no_events}
use Rattle.run_model.proofs.Counts.{total}
use Rattle.meaning_laws.proofs.Listing.{holds}
use Rattle.meaning_laws.proofs.WorkedLemmas.{run_by_listing}
use Rattle.meaning_laws.proofs.worked_laws.examples_are_runs.Goals as goal

pub returns-clause-five_events : goal.returns-clause-five_events
unfolding clock lengths initial min_cut max_cut assigned state_from states_from in_transit total holds edges_of is_conjunctive is_disjunctive is_plain processes
returns-clause-five_events c = run_by_listing five_events refl

pub returns-clause-first_two_events : goal.returns-clause-first_two_events
unfolding clock lengths initial min_cut max_cut assigned state_from states_from in_transit total holds edges_of is_conjunctive is_disjunctive is_plain processes
returns-clause-first_two_events c = run_by_listing first_two_events refl

pub returns-clause-two_events : goal.returns-clause-two_events
unfolding clock lengths initial min_cut max_cut assigned state_from states_from in_transit total holds edges_of is_conjunctive is_disjunctive is_plain processes
returns-clause-two_events c = run_by_listing two_events refl

pub returns-clause-no_events : goal.returns-clause-no_events
unfolding clock lengths initial min_cut max_cut assigned state_from states_from in_transit total holds edges_of is_conjunctive is_disjunctive is_plain processes
returns-clause-no_events c = run_by_listing no_events refl
