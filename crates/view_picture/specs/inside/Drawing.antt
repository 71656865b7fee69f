-- Inside: how many processes the goal of a path has.
use Rattle.std.specs.Prelude.{◌≤◌}
use Rattle.std.specs.Prelude.{length}
use Rattle.pota_base.specs.Limits.{most_processes}
use Rattle.witness_kinds.specs.declared.Witness.{Witness}
use Rattle.witness_kinds.specs.declared.Witness.TheVariants as witness

-- the goal of a path is a cut of at most 32 processes
abbrev pub HasFewProcesses : Witness → Type 0
HasFewProcesses (witness.Reach path) = length path.goal ≤ most_processes
HasFewProcesses (witness.Against path) = length path.goal ≤ most_processes
HasFewProcesses (witness.Always path) = length path.goal ≤ most_processes
HasFewProcesses w = Unit {0}
