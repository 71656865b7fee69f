use Rattle.asked_answers.proofs.Listed.{made}
use Rattle.asked_answers.proofs.laws.asked_lists_are_made_for_the_header.Goals as goal

pub returns : goal.returns
returns c = made
