-- Inside: all processes but one, by their index.
use Rattle.std.specs.Prelude.{ℕ, ◌+◌, nat_lt}
use Rattle.std.specs.Prelude.{if◌then◌else◌}

-- the process at this index among all but one
abbrev pub other : ℕ → ℕ → ℕ
other process index = if nat_lt index process then index else index + 1
