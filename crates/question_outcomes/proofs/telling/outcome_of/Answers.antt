use Rattle.std.proofs.Common.{◌∙◌}
use Rattle.rctl_parts.specs.Pieces.{disjuncts_of}
use Rattle.question_outcomes.proofs.Assembling.{outcome_is}
use Rattle.question_outcomes.proofs.telling.outcome_of.Goals as goal

pub returns-clause-outcome : goal.returns-clause-outcome
returns-clause-outcome g c =
    outcome_is c.args.seen.now (disjuncts_of c.args.asked.now) c.args.form c.in_ok-truth.field-0.truth c.tells_nothing-nothing.result c.in_ok-truth.field-0.witnesses
    _ (record {
      told = c.in_ok-truth.ensures.told;
      turned = λ e. c.holds_where-holds.ensures.turned (c.is_turned.ensures ∙ e);
      straight = λ e. c.holds_where-holds.ensures.straight (c.is_turned.ensures ∙ e);
      none = c.against-witnesses.ensures.none;
      all = c.against-witnesses.ensures.all;
      says_nothing = c.tells_nothing-nothing.ensures;
      nowhere = c.in_ok-nowhere.ensures.nowhere;
      elsewhere = c.in_ok-nowhere.ensures.none;
    })
