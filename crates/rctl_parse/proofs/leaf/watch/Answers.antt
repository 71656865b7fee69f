use Rattle.rctl_parse.proofs.LeafReads.{watch_read}
use Rattle.rctl_parse.proofs.leaf.watch.Goals as goal

pub returns : goal.returns
returns c = λ p at is. watch_read p at _ _ _ _ _ c.in_ok-watch.ensures is
