use Rattle.std.proofs.Common.{[], ◌∷◌, refl, false, true, inl, inr}
use Rattle.run_model.specs.Cut.{initial, lengths, max_cut, min_cut}
use Rattle.run_model.specs.Run.{assigned, state_from, states_from}
use Rattle.run_model.specs.Consistent.{clock}
use Rattle.run_model.specs.Formula.{Ef, Temporal}
use Rattle.run_model.specs.Meaning.{in_transit}
use Rattle.run_model.specs.Worked.{five_events, x_is, y_is}
use Rattle.run_model.proofs.Counts.{total}
use Rattle.meaning_laws.proofs.Listing.{holds}
use Rattle.meaning_laws.proofs.WorkedLemmas.{verdict_by_listing}
use Rattle.question_meaning.proofs.Worked.{can_worked, never_worked}
use Rattle.question_meaning.specs.declared.form.Form.TheVariants as form
use Rattle.rctl_parts.specs.Spelled.{disjunction_of}
use Rattle.asked_parts.specs.Asked.{asked_disjuncts}
use Rattle.question_outcome.specs.Worked.{two_names, variable_is}
use Rattle.question_outcome.proofs.laws.worked_outcomes.Goals as goal

pub returns-clause-each_somewhere : goal.returns-clause-each_somewhere
unfolding clock lengths initial min_cut max_cut assigned state_from states_from in_transit total holds
returns-clause-each_somewhere c =
    let own = (variable_is 0 0 ∷ variable_is 1 1 ∷ []) ∷ [] in
    let asked = disjunction_of two_names (asked_disjuncts form.Never own) in
    record {
      holds = (λ h. verdict_by_listing five_events asked false refl refl, λ h. refl);
      witnesses = refl;
      nowhere = (
        can_worked five_events (x_is 0) refl (verdict_by_listing five_events (Temporal Ef (x_is 0)) true refl refl),
        (can_worked five_events (y_is 1) refl (verdict_by_listing five_events (Temporal Ef (y_is 1)) true refl refl), tt),
      );
    }

pub returns-clause-some_nowhere : goal.returns-clause-some_nowhere
unfolding clock lengths initial min_cut max_cut assigned state_from states_from in_transit total holds
returns-clause-some_nowhere c =
    let own = (variable_is 0 3 ∷ variable_is 1 1 ∷ []) ∷ (variable_is 0 1 ∷ variable_is 1 7 ∷ []) ∷ [] in
    let asked = disjunction_of two_names (asked_disjuncts form.Never own) in
    record {
      holds = (λ h. verdict_by_listing five_events asked false refl refl, λ h. refl);
      witnesses = refl;
      nowhere = inl (
        never_worked five_events (x_is 3) refl (verdict_by_listing five_events (Temporal Ef (x_is 3)) false refl refl),
        refl,
        inr (
          can_worked five_events (y_is 1) refl (verdict_by_listing five_events (Temporal Ef (y_is 1)) true refl refl),
          inr (
            can_worked five_events (x_is 1) refl (verdict_by_listing five_events (Temporal Ef (x_is 1)) true refl refl),
            inl (
              never_worked five_events (y_is 7) refl (verdict_by_listing five_events (Temporal Ef (y_is 7)) false refl refl),
              refl,
              tt,
            ),
          ),
        ),
      );
    }

pub returns-clause-can : goal.returns-clause-can
unfolding clock lengths initial min_cut max_cut assigned state_from states_from in_transit total holds
returns-clause-can c =
    let asked = disjunction_of two_names (asked_disjuncts form.Can ((variable_is 0 1 ∷ []) ∷ [])) in
    record {
      holds = (λ h. verdict_by_listing five_events asked true refl refl, λ h. refl);
      witnesses = refl;
      nowhere = refl;
    }
