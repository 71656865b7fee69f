use Rattle.std.proofs.Common.{refl, true, false, [], ◌∷◌}
use Rattle.run_model.specs.Cut.{lengths, initial, min_cut, max_cut}
use Rattle.run_model.specs.Run.{assigned, state_from, states_from}
use Rattle.run_model.specs.Consistent.{clock}
use Rattle.run_model.specs.Formula.{Truth, Temporal, Next, Ef, Ag, LessOrEqual, GreaterOrEqual}
use Rattle.run_model.specs.Meaning.{in_transit}
use Rattle.run_model.specs.Class.{is_conjunctive, is_disjunctive, is_plain, processes}
use Rattle.run_model.specs.Slice.{edges_of}
use Rattle.run_model.specs.Worked.{p, q, cut, five_events, x_is, y_is, x_less_y}
use Rattle.run_model.proofs.Counts.{total}
use Rattle.meaning_laws.proofs.Listing.{holds}
use Rattle.meaning_laws.proofs.WorkedLemmas.{verdict_by_listing, slice_by_listing}
use Rattle.meaning_laws.proofs.WorkedWitnesses.{next_by_listing, never_next_by_listing}
use Rattle.meaning_laws.proofs.worked_laws.two_ahead.Goals as goal

pub returns-clause-reached : goal.returns-clause-reached
unfolding clock lengths initial min_cut max_cut assigned state_from states_from in_transit total holds edges_of is_conjunctive is_disjunctive is_plain processes
returns-clause-reached c = verdict_by_listing five_events (Temporal Ef (x_less_y GreaterOrEqual 2)) true refl refl

pub returns-clause-further : goal.returns-clause-further
unfolding clock lengths initial min_cut max_cut assigned state_from states_from in_transit total holds edges_of is_conjunctive is_disjunctive is_plain processes
returns-clause-further c = verdict_by_listing five_events (Temporal Ef (x_less_y GreaterOrEqual 3)) false refl refl

pub returns-clause-each_time : goal.returns-clause-each_time
unfolding clock lengths initial min_cut max_cut assigned state_from states_from in_transit total holds edges_of is_conjunctive is_disjunctive is_plain processes
returns-clause-each_time c = verdict_by_listing five_events (Temporal Ag (x_less_y LessOrEqual 1)) false refl refl
