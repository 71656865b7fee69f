-- The same pulls on a longer shape.
use Rattle.std.specs.Prelude.{ℕ, ◌+◌, ◌/◌, List, [], ◌++◌, length, map, take}
use Rattle.std.specs.Prelude.{slice_index, slice_index_or}
use Rattle.pull_system.specs.declared.pull.Pull.{Pull}
use Rattle.pull_fans.specs.Fans.{column}

-- A table from this source to this target on a longer shape: its first entries, one for each value
-- up to the source's old length, and behind them what the rows that `more` has for the source, of
-- one entry per process, have of the target.
abbrev pub grown_table : List ℕ → List (List ℕ) → ℕ → ℕ → List ℕ → List ℕ
grown_table lens more src dst table = take (slice_index lens src + 1) table
    ++ column (length lens) (length (slice_index_or more src []) / length lens)
    (slice_index_or more src []) dst

-- the pull on a longer shape
abbrev pub grown_pull : List ℕ → List (List ℕ) → Pull → Pull
grown_pull lens more pull =
    record pull { table = grown_table lens more pull.src pull.dst pull.table }

-- the pulls on a longer shape, in their order
abbrev pub grown_pulls : List ℕ → List (List ℕ) → List Pull → List Pull
grown_pulls lens more pulls = map (grown_pull lens more) pulls
