-- The pulls from one process side by side, and the tables that stand in such rows.
use Rattle.std.specs.Prelude.{◌≡◌, ℕ, ◌+◌, ◌*◌, ◌<◌, List, [], ◌∷◌, ◌++◌, length, get_or, map}
use Rattle.std.specs.Prelude.{flat_map, slice_index}
use Rattle.std.specs.List.{range_with_len}
use Rattle.pull_system.specs.declared.pull.Pull.{Pull}

-- one source, its targets, and one table for each target
pub record FanView : Type 0 where
  pub src : ℕ
  pub targets : List ℕ
  pub tables : List (List ℕ)

-- the numbers at this index of each of the first rows
abbrev pub column : ℕ → ℕ → List ℕ → ℕ → List ℕ
column width values entries index =
    map (λ x. get_or entries (x * width + index) 0) (range_with_len 0 values)

-- the pull to the target at this index
abbrev pub pull_of_fan : FanView → ℕ → Pull
pull_of_fan fan i =
    record { src = fan.src; dst = get_or fan.targets i 0; table = get_or fan.tables i [] }

-- one pull for each target, in their order
abbrev pub pulls_of_fan : FanView → List Pull
pulls_of_fan fan = map (pull_of_fan fan) (range_with_len 0 (length fan.targets))

-- the pulls of each of the fans, in their order
abbrev pub pulls_of_fans : List FanView → List Pull
pulls_of_fans fans = flat_map pulls_of_fan fans

-- each table has one number of the row more
pub record HasRow (row : List ℕ) (before now : List (List ℕ)) : Type 0 where
  pub size : length now ≡ length before
  pub each : (j : ℕ) → j < length before
      → get_or now j [] ≡ get_or before j [] ++ get_or row j 0 ∷ []

-- the pulls go to each process in turn
pub record IsToAll (fan : FanView) (procs : ℕ) : Type 0 where
  pub count : length fan.targets ≡ procs
  pub each : (index : ℕ) → index < procs → slice_index fan.targets index ≡ index

-- each table has one number of each of so many rows more
pub record HaveRows (rows : List ℕ) (count : ℕ) (before now : List (List ℕ)) : Type 0 where
  pub size : length now ≡ length before
  pub each : (j : ℕ) → j < length before
      → get_or now j [] ≡ get_or before j [] ++ column (length before) count rows j

-- one table for each process, with its first entries
pub record AreTables (entry : ℕ → ℕ → ℕ) (procs count : ℕ) (tables : List (List ℕ)) : Type 0 where
  pub size : length tables ≡ procs
  pub each : (j : ℕ) → j < procs
      → get_or tables j [] ≡ map (entry j) (range_with_len 0 count)
