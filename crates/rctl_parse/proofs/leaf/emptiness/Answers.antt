use Rattle.rctl_parse.proofs.LeafReads.{emptiness_read}
use Rattle.rctl_parse.proofs.leaf.emptiness.Goals as goal

pub returns : goal.returns
returns c = emptiness_read _ _ _ _ _ c.in_ok-sender.ensures
