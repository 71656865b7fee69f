use Rattle.std.proofs.Common.{refl}
use Rattle.log_merge.proofs.Judged.{none_joined}
use Rattle.log_merge.proofs.judging.Joined.new.Goals as goal

pub returns : goal.returns
returns c = none_joined _ refl refl
