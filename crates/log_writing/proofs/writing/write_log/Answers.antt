use Rattle.log_writing.proofs.Spelled.{log_has_text}
use Rattle.log_writing.proofs.writing.write_log.Goals as goal

pub text_of-requires : goal.text_of-requires
text_of-requires c = log_has_text c.args.log.now c.requires
