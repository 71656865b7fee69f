use Rattle.log_judgement.proofs.Texts.{one_due}
use Rattle.log_judgement.proofs.text_laws.one_text_is_due.Goals as goal

pub returns : goal.returns
returns c = one_due
