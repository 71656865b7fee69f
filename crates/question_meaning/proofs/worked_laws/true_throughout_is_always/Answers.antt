use Rattle.std.proofs.Common.{refl, false, true}
use Rattle.run_model.specs.Cut.{initial, lengths, max_cut, min_cut}
use Rattle.run_model.specs.Run.{assigned, state_from, states_from}
use Rattle.run_model.specs.Consistent.{clock}
use Rattle.run_model.specs.Formula.{Ag, Temporal}
use Rattle.run_model.specs.Meaning.{in_transit}
use Rattle.run_model.specs.Worked.{five_events, x_at_most}
use Rattle.run_model.proofs.Counts.{total}
use Rattle.meaning_laws.proofs.Listing.{holds}
use Rattle.meaning_laws.proofs.WorkedLemmas.{verdict_by_listing}
use Rattle.question_meaning.proofs.Worked.{always_worked, no_always_worked}
use Rattle.question_meaning.proofs.worked_laws.true_throughout_is_always.Goals as goal

pub returns-clause-always : goal.returns-clause-always
unfolding clock lengths initial min_cut max_cut assigned state_from states_from in_transit total holds
returns-clause-always c = always_worked five_events (x_at_most 2) refl (verdict_by_listing five_events (Temporal Ag (x_at_most 2)) true refl refl)

pub returns-clause-not_always : goal.returns-clause-not_always
unfolding clock lengths initial min_cut max_cut assigned state_from states_from in_transit total holds
returns-clause-not_always c = no_always_worked five_events (x_at_most 1) refl (verdict_by_listing five_events (Temporal Ag (x_at_most 1)) false refl refl)
