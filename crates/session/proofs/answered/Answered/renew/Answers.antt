use Rattle.session.proofs.Standing.{goes_on_since}
use Rattle.session.proofs.answered.Answered.renew.Goals as goal

pub answer-answered-requires-clause-goes_on : goal.answer-answered-requires-clause-goes_on
answer-answered-requires-clause-goes_on g c κs within =
    goes_on_since c.what_goes_on_goes_on_later.ensures _ c.args.self.now c.self.inside.answering.kept c.args.observation.now.growing c.self.view_is c.requires.formula c.requires.later c.self.invariant.goes_on
