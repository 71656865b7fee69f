use Rattle.std.proofs.Common.{refl}
use Rattle.pota_base.specs.Limits.{most_processes}
use Rattle.part_pulls.proofs.Firsts.{zero_at}
use Rattle.conjunctions.proofs.floors.no_rows.Goals as goal

pub returns : goal.returns
returns c = record { size = refl; none = zero_at most_processes }
