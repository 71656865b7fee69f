use Rattle.std.proofs.Common.{refl, false}
use Rattle.run_model.specs.Cut.{lengths, initial, min_cut, max_cut}
use Rattle.run_model.specs.Run.{assigned, state_from, states_from}
use Rattle.run_model.specs.Consistent.{clock}
use Rattle.run_model.specs.Formula.{Empty, Temporal, Ef, Eg}
use Rattle.run_model.specs.Meaning.{in_transit}
use Rattle.run_model.specs.Class.{is_conjunctive, is_disjunctive, is_plain, processes}
use Rattle.run_model.specs.Slice.{edges_of}
use Rattle.run_model.specs.Worked.{p, q, first_two_events, x_is, y_is, both}
use Rattle.run_model.proofs.Counts.{total}
use Rattle.meaning_laws.proofs.Listing.{holds}
use Rattle.meaning_laws.proofs.WorkedLemmas.{verdict_by_listing}
use Rattle.meaning_laws.proofs.WorkedWitnesses.{finish_by_listing}
use Rattle.meaning_laws.proofs.worked_laws.before_the_receipts.Goals as goal

pub returns-clause-not_yet : goal.returns-clause-not_yet
unfolding clock lengths initial min_cut max_cut assigned state_from states_from in_transit total holds edges_of is_conjunctive is_disjunctive is_plain processes
returns-clause-not_yet c = verdict_by_listing first_two_events (Temporal Ef (both (x_is 2) (y_is 1))) false refl refl

pub returns-clause-verdict : goal.returns-clause-verdict
unfolding clock lengths initial min_cut max_cut assigned state_from states_from in_transit total holds edges_of is_conjunctive is_disjunctive is_plain processes
returns-clause-verdict c = verdict_by_listing first_two_events (Temporal Eg (Empty p q)) false refl refl

pub returns-clause-witness : goal.returns-clause-witness
unfolding clock lengths initial min_cut max_cut assigned state_from states_from in_transit total holds edges_of is_conjunctive is_disjunctive is_plain processes
returns-clause-witness c = finish_by_listing first_two_events (Empty p q) refl refl refl refl
