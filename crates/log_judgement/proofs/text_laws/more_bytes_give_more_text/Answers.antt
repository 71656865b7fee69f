use Rattle.log_judgement.proofs.Texts.{due_in_front}
use Rattle.log_judgement.proofs.text_laws.more_bytes_give_more_text.Goals as goal

pub returns : goal.returns
returns c = due_in_front
