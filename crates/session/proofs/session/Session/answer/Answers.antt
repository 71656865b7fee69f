use Rattle.session.proofs.session.Session.answer.Goals as goal

pub returns-clause-answers : goal.returns-clause-answers
returns-clause-answers g c = c.seen-seen.ensures.answers c.requires.taken
