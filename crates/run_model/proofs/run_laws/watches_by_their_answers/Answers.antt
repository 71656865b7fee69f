use Rattle.run_model.proofs.TraceLemmas.{watches_same}
use Rattle.run_model.proofs.run_laws.watches_by_their_answers.Goals as goal

pub returns : goal.returns
returns c = watches_same
