use Rattle.watch.proofs.OwingLaws.{owing_where}
use Rattle.watch.proofs.owing.Owing.new.Goals as goal

pub returns : goal.returns
returns c = owing_where
