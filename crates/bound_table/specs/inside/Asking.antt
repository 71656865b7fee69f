-- What is known while a row is settled: which pulls hold, by the value at which each was looked up
-- last.
use Rattle.std.specs.Prelude.{◌≡◌, ℕ, ◌+◌, ◌*◌, ◌<◌, ◌≤◌, List, true, length, sum}
use Rattle.std.specs.Prelude.{slice_index, slice_set}
use Rattle.pull_system.specs.Vector.{IsAtMost}
use Rattle.pull_system.specs.System.{SystemView, IsSystem, source_of, target_of, ask}
use Rattle.pull_system.specs.Rows.{place_of}
use Rattle.raise_machine.specs.declared.step.Step.TheVariants.{Pull}
use Rattle.raise_machine.specs.Bounds.{AreBounds, word_at}
use Rattle.raise_machine.specs.Machine.{is_allowed}
use Rattle.bound_table.specs.Kept.{Follows}
use Rattle.bound_table.specs.Views.{TableView, SeatView, KeepsClaims}

-- the place of a word: its row and its process
pub record Cell : Type 0 where
  pub row : ℕ
  pub process : ℕ

abbrev pub cell_of : (row process : ℕ) → Cell
cell_of row process = record { row = row; process = process }

-- a seat of the table settles a row: the vector is the seat's floor for the row, and what changed
-- from the old seat is that this row rose
pub record IsSettling (table : TableView) (row : ℕ) (old new : SeatView) (v : List ℕ) : Type 0 where
  pub system : IsSystem table.system
  pub fits : old.table ≡ table
  pub there : row ≤ sum table.system.lens
  pub keeps : KeepsClaims old new
  pub follows : Follows table.system row old.floor new.floor v

-- each pull from the first processes holds at the value that `seen` has of its source, at which it
-- was looked up last
pub record HoldSeen (system : SystemView) (count : ℕ) (seen v : List ℕ) : Type 0 where
  pub each : (k : ℕ) → k < length system.pulls → source_of system k < count
      → ask system k (slice_index seen (source_of system k)) ≤ slice_index v (target_of system k)

-- a seat of the table settles a row, and each pull was looked up at a value that its source has
-- reached
pub record IsAsking (table : TableView) (row : ℕ) (old new : SeatView) (v seen : List ℕ) : Type
    0 where
  pub settling : IsSettling table row old new v
  pub size : length seen ≡ length table.system.lens
  pub within : IsAtMost seen v
  pub held : HoldSeen table.system (length table.system.lens) seen v

-- What was seen only rose, and by at least the count. Each look-up is paid for by what it rose.
pub record SeesMore (pulls count steps steps_now : ℕ) (seen seen_now : List ℕ) : Type 0 where
  pub kept : IsAtMost seen seen_now
  pub rises : sum seen + count ≤ sum seen_now
  pub pays : steps_now + pulls * sum seen ≤ steps + pulls * sum seen_now

-- the machine allows some pull at the floor, and it asks this number of the target
pub record IsPullStep (system : SystemView) (floor : List ℕ) (row target asked : ℕ) : Type 0 where
  pub k : ℕ
  pub x : ℕ
  pub allowed : is_allowed system floor (Pull row k x) ≡ true
  pub to : target_of system k ≡ target
  pub asks : ask system k x ≡ asked

-- the floor of one word rose to at least the number, and is what the word became
pub record IsRaised (system : SystemView) (old new : List ℕ) (cell : Cell) (number became : ℕ)
    : Type 0 where
  pub floor : new ≡ slice_set old (place_of system.lens cell.row cell.process) became
  pub rises : word_at system.lens old cell.row cell.process ≤ became
  pub reaches : number ≤ became
  pub bounds : AreBounds system new
