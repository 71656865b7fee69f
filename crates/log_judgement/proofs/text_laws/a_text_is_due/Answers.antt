use Rattle.log_judgement.proofs.Texts.{due_there}
use Rattle.log_judgement.proofs.text_laws.a_text_is_due.Goals as goal

pub returns : goal.returns
returns c = due_there
