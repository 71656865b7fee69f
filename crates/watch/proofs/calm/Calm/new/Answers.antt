use Rattle.watch.proofs.CalmLaws.{calm_where}
use Rattle.watch.proofs.calm.Calm.new.Goals as goal

pub returns : goal.returns
returns c = calm_where
