use Rattle.std.proofs.Common.{subst, sym}
use Rattle.part_pulls.specs.Counters.{CountersRise}
use Rattle.question_outcomes.specs.Telling.{IsOutcomeOf}
use Rattle.rctl_parts.specs.Pieces.{disjuncts_of}
use Rattle.instance_outcomes.specs.inside.Lists.{IsAskedOf}
use Rattle.instance_outcomes.proofs.Instances.{none_falls, ok_always, ok_more, outcome_is}
use Rattle.instance_outcomes.proofs.answering.outcome_for.Goals as goal

pub outcome_of-outcome-requires-clause-rise : goal.outcome_of-outcome-requires-clause-rise
outcome_of-outcome-requires-clause-rise g c κs within =
    let are = subst (λ header. IsAskedOf header c.args.list.now c.in_ok-asked.asked) c.header.ensures c.in_ok-asked.ensures in
    subst (λ ds. CountersRise c.args.seen.now (disjuncts_of ds)) (sym c.as_slice.ensures)
    (none_falls c.args.seen.now c.args.form c.args.list.now c.in_ok-asked.asked c.requires.list are)

pub returns-clause-outcome : goal.returns-clause-outcome
returns-clause-outcome g c =
    let are = subst (λ header. IsAskedOf header c.args.list.now c.in_ok-asked.asked) c.header.ensures c.in_ok-asked.ensures in
    ok_more c.outcome_of-outcome.result _ _
    (λ o is. outcome_is c.args.seen.now c.args.form c.args.list.now c.in_ok-asked.asked o c.requires.seen c.requires.list are
    (subst (λ ds. IsOutcomeOf c.args.seen.now (disjuncts_of ds) c.args.form o) c.as_slice.ensures is))
    c.outcome_of-outcome.ensures.outcome

pub returns-clause-spelled : goal.returns-clause-spelled
returns-clause-spelled g c =
    let are = subst (λ header. IsAskedOf header c.args.list.now c.in_ok-asked.asked) c.header.ensures c.in_ok-asked.ensures in
    ok_always c.outcome_of-outcome.result _ are.spelled
