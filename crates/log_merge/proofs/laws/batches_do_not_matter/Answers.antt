use Rattle.log_merge.proofs.OneBatch as one_batch
use Rattle.log_merge.proofs.laws.batches_do_not_matter.Goals as goal

pub returns : goal.returns
returns c = one_batch.batches_do_not_matter
