use Rattle.one_log.proofs.Batches.{has_text_of}
use Rattle.one_log.proofs.top.text_by.Goals as goal

pub text_of-requires : goal.text_of-requires
text_of-requires c = has_text_of c.args.asked.now.flags.one_batch c.in_ok-kept.kept c.in_ok-batches.batches c.in_ok-batches.ensures c.in_ok-kept.ensures.text
