-- The numbers of the pulls from each process.
use Rattle.std.specs.Prelude.{ℕ, zero, suc, ◌==◌, List, [], ◌∷◌, ◌++◌}
use Rattle.std.specs.Prelude.{slice_index_or, if◌then◌else◌}
use Rattle.pull_system.specs.declared.pull.Pull.{Pull}
use Rattle.pull_system.specs.System.{no_pull}

-- the numbers below `count` of the pulls from this source, in their order
abbrev pub numbers_from : List Pull → ℕ → ℕ → List ℕ
numbers_from pulls process zero = []
numbers_from pulls process (suc count) =
    if (slice_index_or pulls count no_pull).src == process then numbers_from pulls process count
    ++ count ∷ [] else numbers_from pulls process count
