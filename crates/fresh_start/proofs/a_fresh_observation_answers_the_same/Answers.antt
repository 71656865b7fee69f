use Rattle.fresh_start.proofs.Observing.{observes_as_one, answers_as_one}
use Rattle.fresh_start.proofs.a_fresh_observation_answers_the_same.Goals as goal

pub returns-clause-takes : goal.returns-clause-takes
returns-clause-takes g c = λ header on disjuncts. observes_as_one _ header on disjuncts c.args.watches.now.items

pub returns-clause-answers : goal.returns-clause-answers
returns-clause-answers g c = λ header on disjuncts batches one other here there.
    answers_as_one _ header on disjuncts c.args.watches.now.items c.a_fresh_start_answers_the_same.ensures batches one other here there
