use Rattle.std.proofs.Common.{false, replicate, refl}
use Rattle.pota_base.specs.Limits.{most_processes}
use Rattle.pull_system.proofs.Marks.{unmarked}
use Rattle.least_cut.proofs.risen.Risen.new.Goals as goal

pub returns-clause-none : goal.returns-clause-none
returns-clause-none c = unmarked (replicate most_processes false) refl
