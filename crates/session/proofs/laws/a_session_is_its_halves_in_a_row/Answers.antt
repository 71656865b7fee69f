use Rattle.session.proofs.Halves.{goes_alike}
use Rattle.session.proofs.laws.a_session_is_its_halves_in_a_row.Goals as goal

pub returns : goal.returns
returns g c = λ here there here_after there_after before after start end batch session halves alike trace.
    goes_alike _ c.args.watches.now.items here there here_after there_after before after start end batch alike (λ one other. c.a_fresh_start_answers_the_same.ensures one other) trace session halves
