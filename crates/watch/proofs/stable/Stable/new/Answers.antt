use Rattle.watch.proofs.StableLaws.{stable_where}
use Rattle.watch.proofs.stable.Stable.new.Goals as goal

pub returns : goal.returns
returns c = stable_where
