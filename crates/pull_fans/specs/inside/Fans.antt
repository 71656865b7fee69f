-- Inside: the shape of a fan: its entries, its targets, its rows.
use Rattle.std.specs.Prelude.{◌≡◌, ◌⊎◌, ℕ, ◌+◌, ◌*◌, ◌<◌, ◌≤◌, List, [], length, get_or}
use Rattle.std.specs.Prelude.{slice_index}
use Rattle.pull_fans.specs.Fans.{FanView, IsToAll}
use Rattle.pull_fans.specs.inside.Layouts.{AreOthers}

-- so many rows of this width, and none where a row has no entry
pub record AreEntries (width values : ℕ) (entries : List ℕ) : Type 0 where
  pub size : length entries ≡ values * width
  pub rows : values ≤ length entries

-- what the pull to the target at this index asks for at a value
abbrev pub entry_of : FanView → ℕ → ℕ → ℕ
entry_of fan i x = get_or (get_or fan.tables i []) x 0

-- each table has an entry for each of so many values
abbrev pub HasValues : FanView → ℕ → Type 0
HasValues fan count =
    (index : ℕ) → index < length fan.targets → length (get_or fan.tables index []) ≡ count

-- the pulls go to each process but their source in turn, and to two or more
pub record IsToOthers (fan : FanView) (procs : ℕ) : Type 0 where
  pub count : length fan.targets + 1 ≡ procs
  pub others : AreOthers fan.src fan.targets

-- the pulls come from a process, and go to each in turn, or to each but this one
pub record IsAround (fan : FanView) (procs : ℕ) : Type 0 where
  pub source : fan.src < procs
  pub targets : IsToAll fan procs ⊎ IsToOthers fan procs

-- the fan has rows of one entry per process, for so many values
pub record HasProcessRows (fan : FanView) (procs count : ℕ) : Type 0 where
  pub around : IsAround fan procs
  pub values : HasValues fan count

-- a pull of the fan goes to the process
pub record IsTarget (fan : FanView) (process : ℕ) : Type 0 where
  pub index : ℕ
  pub there : index < length fan.targets
  pub is : slice_index fan.targets index ≡ process

-- the entries at so many values, one row after the other, with 0 at a process that is no target
pub record AreFanRows (fan : FanView) (procs count : ℕ) (rows : List ℕ) : Type 0 where
  pub size : length rows ≡ count * procs
  pub each : (x index : ℕ) → x < count → index < length fan.targets
      → slice_index rows (x * procs + slice_index fan.targets index) ≡ entry_of fan index x
  pub none : (x process : ℕ) → x < count → process < procs
      → (slice_index rows (x * procs + process) ≡ 0) ⊎ IsTarget fan process
