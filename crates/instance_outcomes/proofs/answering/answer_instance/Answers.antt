use Rattle.std.proofs.Common.{refl}
use Rattle.instance_outcomes.proofs.Instances.{answered_is}
use Rattle.instance_outcomes.proofs.answering.answer_instance.Goals as goal

pub returns-clause-answered : goal.returns-clause-answered
returns-clause-answered g c =
    answered_is c.args.seen.now c.args.instance c.in-Ok.list _ c.requires.seen c.requires.known c.in-Ok.ensures.list c.in-Ok-outcome_for.ensures.outcome c.in-Ok-outcome_for.ensures.spelled
    refl refl refl refl refl
