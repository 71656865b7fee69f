-- Inside: what the pulls from a process ask of all others, row by row as it is gathered.
use Rattle.std.specs.Prelude.{◌≡◌, ◌≢◌, ◌⊎◌, ℕ, ◌+◌, ◌*◌, ◌<◌, ◌≤◌, List, [], length}
use Rattle.std.specs.Prelude.{slice_index, slice_index_or}
use Rattle.pull_system.specs.System.{SystemView, source_of, target_of, ask}
use Rattle.pull_fans.specs.Fans.{FanView}
use Rattle.pull_fans.specs.inside.Fans.{entry_of, AreFanRows, HasProcessRows}
use Rattle.pull_fans.specs.inside.Places.{fan_at}
use Rattle.pull_fans.specs.Asks.{IsAskedBy}
use Rattle.pull_fans.specs.declared.asks.AskRows.{AskRows}
use Rattle.pull_fans.specs.declared.asks.AskRows.TheVariants.{Own, OfFan}

-- targets of a fan, from the first index to the end
pub record Stretch : Type 0 where
  pub first : ℕ
  pub end : ℕ

abbrev pub stretch_of : (first end : ℕ) → Stretch
stretch_of first end = record { first = first; end = end }

-- the rows of asks of the first values of the process, one after the other
pub record AreAskRows (system : SystemView) (process count : ℕ) (rows : List ℕ) : Type 0 where
  pub size : length rows ≡ count * length system.lens
  pub covers : (x k : ℕ) → x < count → k < length system.pulls → source_of system k ≡ process
      → ask system k x ≤ slice_index rows (x * length system.lens + target_of system k)
  pub asked : (x target : ℕ) → x < count → target < length system.lens
      → (slice_index rows (x * length system.lens + target) ≡ 0)
      ⊎ IsAskedBy system process x target (slice_index rows (x * length system.lens + target))

-- the rows of the fan of this number are the rows of asks of the first values of the process
pub record IsFanOfAsks (system : SystemView) (fans : List FanView) (process count number : ℕ)
    : Type 0 where
  pub there : number < length fans
  pub has : HasProcessRows (fan_at fans number) (length system.lens) count
  pub rows : (rows : List ℕ) → AreFanRows (fan_at fans number) (length system.lens) count rows
      → AreAskRows system process count rows

-- what is held are the rows of asks of the first values of the process, or the fan with these rows
abbrev pub HoldsAsks : SystemView → List FanView → ℕ → ℕ → AskRows → Type 0
HoldsAsks system fans process count (Own rows) = AreAskRows system process count rows
HoldsAsks system fans process count (OfFan number) = IsFanOfAsks system fans process count number

-- rows of their own, if such are held, are the rows of asks of the first values of the process
abbrev pub OwnAreAsks : SystemView → ℕ → ℕ → AskRows → Type 0
OwnAreAsks system process count held =
    (rows : List ℕ) → held ≡ Own rows → AreAskRows system process count rows

-- the fan whose rows are held, if there is one, is among the first
abbrev pub StaysWith : ℕ → AskRows → Type 0
StaysWith count held = (number : ℕ) → held ≡ OfFan number → number < count

-- what is read where nothing is held
abbrev pub no_rows : AskRows
no_rows = Own []

-- for each process its rows of asks, one for each value that its component may have
pub record AreAllAsks (system : SystemView) (fans : List FanView) (asks : List AskRows) : Type 0
  where
    pub count : length asks ≡ length system.lens
    pub each : (process : ℕ) → process < length system.lens
        → HoldsAsks system fans process (slice_index system.lens process + 2)
        (slice_index_or asks process no_rows)

-- a run: targets from the first index to the end, each one more than the one before. The target at
-- the end, if there is one, is not.
pub record AreInTurn (targets : List ℕ) (first end : ℕ) : Type 0 where
  pub some : first < end
  pub within : end ≤ length targets
  pub each : (i : ℕ) → first + i < end
      → slice_index targets (first + i) ≡ slice_index targets first + i
  pub stops : (i : ℕ) → first + i ≡ end → end < length targets
      → slice_index targets end ≢ slice_index targets first + i

-- a pull of the fan to one of the targets from the first index to the end asks this number of the
-- process at this place of the rows of the first values
pub record IsAskedIn (fan : FanView) (procs : ℕ) (stretch : Stretch) (values place number : ℕ)
    : Type 0 where
  pub x : ℕ
  pub index : ℕ
  pub value : x < values
  pub from : stretch.first ≤ index
  pub below : index < stretch.end
  pub at : x * procs + slice_index fan.targets index ≡ place
  pub asks : entry_of fan index x ≡ number

-- At each place there is at least what was there before and what the pulls of the fan to the
-- targets from the first index to the end ask there at the first values, and there is one of these.
pub record AreRaisedIn (fan : FanView) (procs : ℕ) (stretch : Stretch) (values : ℕ)
    (before now : List ℕ) : Type 0 where
  pub size : length now ≡ length before
  pub keeps : (place : ℕ) → slice_index before place ≤ slice_index now place
  pub covers : (x index : ℕ) → x < values → stretch.first ≤ index → index < stretch.end
      → entry_of fan index x ≤ slice_index now (x * procs + slice_index fan.targets index)
  pub asked : (place : ℕ) → (slice_index now place ≡ slice_index before place)
      ⊎ IsAskedIn fan procs stretch values place (slice_index now place)

-- a pull of the fan asks this number of the process at this place of the rows of the first values
pub record IsAskedOf (fan : FanView) (procs values place number : ℕ) : Type 0 where
  pub x : ℕ
  pub index : ℕ
  pub value : x < values
  pub target : index < length fan.targets
  pub at : x * procs + slice_index fan.targets index ≡ place
  pub asks : entry_of fan index x ≡ number

-- At each place there is at least what was there before and what the pulls of the fan ask there at
-- the first values, and there is one of these.
pub record AreRaised (fan : FanView) (procs values : ℕ) (before now : List ℕ) : Type 0 where
  pub size : length now ≡ length before
  pub keeps : (place : ℕ) → slice_index before place ≤ slice_index now place
  pub covers : (x index : ℕ) → x < values → index < length fan.targets
      → entry_of fan index x ≤ slice_index now (x * procs + slice_index fan.targets index)
  pub asked : (place : ℕ) → (slice_index now place ≡ slice_index before place)
      ⊎ IsAskedOf fan procs values place (slice_index now place)
