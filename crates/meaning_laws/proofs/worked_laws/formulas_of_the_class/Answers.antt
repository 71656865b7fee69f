use Rattle.std.proofs.Common.{refl}
use Rattle.run_model.specs.Cut.{lengths, initial, min_cut, max_cut}
use Rattle.run_model.specs.Run.{assigned, state_from, states_from}
use Rattle.run_model.specs.Consistent.{clock}
use Rattle.run_model.specs.Meaning.{in_transit}
use Rattle.run_model.specs.Class.{is_conjunctive, is_disjunctive, is_plain, processes}
use Rattle.run_model.specs.Slice.{edges_of}
use Rattle.run_model.specs.Worked.{}
use Rattle.run_model.proofs.Counts.{total}
use Rattle.meaning_laws.proofs.Listing.{holds}
use Rattle.meaning_laws.proofs.WorkedLemmas.{}
use Rattle.meaning_laws.proofs.worked_laws.formulas_of_the_class.Goals as goal

pub returns-clause-disjunction : goal.returns-clause-disjunction
unfolding clock lengths initial min_cut max_cut assigned state_from states_from in_transit total holds edges_of is_conjunctive is_disjunctive is_plain processes
returns-clause-disjunction c = refl

pub returns-clause-not_regular : goal.returns-clause-not_regular
unfolding clock lengths initial min_cut max_cut assigned state_from states_from in_transit total holds edges_of is_conjunctive is_disjunctive is_plain processes
returns-clause-not_regular c = refl

pub returns-clause-inside : goal.returns-clause-inside
unfolding clock lengths initial min_cut max_cut assigned state_from states_from in_transit total holds edges_of is_conjunctive is_disjunctive is_plain processes
returns-clause-inside c = refl

pub returns-clause-unanalysed : goal.returns-clause-unanalysed
unfolding clock lengths initial min_cut max_cut assigned state_from states_from in_transit total holds edges_of is_conjunctive is_disjunctive is_plain processes
returns-clause-unanalysed c = refl

pub returns-clause-negated_equation : goal.returns-clause-negated_equation
unfolding clock lengths initial min_cut max_cut assigned state_from states_from in_transit total holds edges_of is_conjunctive is_disjunctive is_plain processes
returns-clause-negated_equation c = refl

pub returns-clause-next_event : goal.returns-clause-next_event
unfolding clock lengths initial min_cut max_cut assigned state_from states_from in_transit total holds edges_of is_conjunctive is_disjunctive is_plain processes
returns-clause-next_event c = refl

pub returns-clause-negated_next_event : goal.returns-clause-negated_next_event
unfolding clock lengths initial min_cut max_cut assigned state_from states_from in_transit total holds edges_of is_conjunctive is_disjunctive is_plain processes
returns-clause-negated_next_event c = refl

pub returns-clause-difference : goal.returns-clause-difference
unfolding clock lengths initial min_cut max_cut assigned state_from states_from in_transit total holds edges_of is_conjunctive is_disjunctive is_plain processes
returns-clause-difference c = refl

pub returns-clause-within_one : goal.returns-clause-within_one
unfolding clock lengths initial min_cut max_cut assigned state_from states_from in_transit total holds edges_of is_conjunctive is_disjunctive is_plain processes
returns-clause-within_one c = refl

pub returns-clause-negated_difference : goal.returns-clause-negated_difference
unfolding clock lengths initial min_cut max_cut assigned state_from states_from in_transit total holds edges_of is_conjunctive is_disjunctive is_plain processes
returns-clause-negated_difference c = refl
