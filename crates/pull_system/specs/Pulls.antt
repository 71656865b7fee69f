-- Lists of pulls, as the parts of a formula and the order of a run give them, and the tables that
-- they are made by.
use Rattle.std.specs.Prelude.{ℕ, zero, suc, ◌≤◌, Bool, nat_lt, if◌then◌else◌, List, All}
use Rattle.std.specs.Prelude.{slice_index}
use Rattle.pull_system.specs.declared.pull.Pull.{Pull}

-- the pull holds at the vector
abbrev pub HoldsAt : List ℕ → Pull → Type 0
HoldsAt v pull = slice_index pull.table (slice_index v pull.src) ≤ slice_index v pull.dst

-- the vector is closed under each of the pulls
abbrev pub ClosedUnder : List Pull → List ℕ → Type 0
ClosedUnder pulls v = All (HoldsAt v) pulls

-- the least number below n that passes the test, or n where there is none
unfoldable pub first_below : (ℕ → Bool) → ℕ → ℕ
first_below test zero = zero
first_below test (suc n) =
    if nat_lt (first_below test n) n then first_below test n else (if test n then n else suc n)
