-- What a system has become when its processes have more events: the later pulls ask for no less,
-- and the earlier rows are kept. Where a pull asked for what was there, it may ask for no more.
use Rattle.std.specs.Prelude.{◌≡◌, ℕ, ◌+◌, ◌-◌, ◌<◌, ◌≤◌, min, List, [], ◌∷◌, Option}
use Rattle.std.specs.Prelude.{Some, None, length, sum, slice_index, nat_le, if◌then◌else◌}
use Rattle.pull_system.specs.declared.pull.Pull.{Pull}
use Rattle.pull_system.specs.System.{SystemView, pull_at}
use Rattle.pull_system.specs.Rows.{RowsView, start_of, row_at, first_rows}

-- as many processes as before, none with fewer events
pub record DidNotFall (before after : List ℕ) : Type 0 where
  pub count : length before ≡ length after
  pub each : (process : ℕ) → slice_index before process ≤ slice_index after process

-- Between the same processes the later pull asks at least what the earlier one does, which past its
-- last entry goes on asking what that says.
pub record PullGrows (old lens : List ℕ) (before after : Pull) : Type 0 where
  pub source : before.src ≡ after.src
  pub target : before.dst ≡ after.dst
  pub asks : (x : ℕ) → x ≤ slice_index lens after.src + 1
      → slice_index before.table (min x (slice_index old after.src + 1)) ≤ slice_index after.table x

-- no process has fewer events, and each pull asks for no less
pub record Grows (before after : SystemView) : Type 0 where
  pub fell : DidNotFall before.lens after.lens
  pub count : length before.pulls ≡ length after.pulls
  pub each : (k : ℕ) → k < length after.pulls
      → PullGrows before.lens after.lens (pull_at before k) (pull_at after k)

-- where the earlier pull asks for no more than was there, the later one asks for no more than it
pub record PullStays (old : List ℕ) (before after : Pull) : Type 0 where
  pub asks : (x : ℕ) → x ≤ slice_index old before.src
      → slice_index before.table x ≤ slice_index old before.dst
      → slice_index after.table x ≤ slice_index before.table x

-- where each pull of the earlier system asks for no more than was there, the later one does as well
pub record Stays (before after : SystemView) : Type 0 where
  pub each : (k : ℕ) → k < length after.pulls
      → PullStays before.lens (pull_at before k) (pull_at after k)

-- The row that an event had before, where `before` counts the old events of the processes to the
-- left. The bottom's row is kept, and a new event had none.
abbrev pub old_row_from : ℕ → List ℕ → List ℕ → ℕ → Option ℕ
old_row_from before [] lens row = None
old_row_from before (old ∷ olds) [] row = None
old_row_from before (old ∷ olds) (len ∷ lens) row =
    if nat_le row len then (if nat_le row old then Some (before + row) else None)
    else old_row_from (before + old) olds lens (row - len)

-- the row that an event had before, and nothing for a new event
abbrev pub old_row : List ℕ → List ℕ → ℕ → Option ℕ
old_row olds lens row = old_row_from 0 olds lens row

-- the words that a row had before, or its start
abbrev pub kept_or_start : List ℕ → RowsView → ℕ → Option ℕ → List ℕ
kept_or_start lens old row None = start_of lens row
kept_or_start lens old row (Some kept) = row_at old.lens old.words kept

-- a row as it was, or a new event's start
abbrev pub grown_row : List ℕ → RowsView → ℕ → List ℕ
grown_row lens old row = kept_or_start lens old row (old_row old.lens lens row)

-- row 0 and the old events' rows as they were, and each new event's row at its start
abbrev pub grown_words : List ℕ → RowsView → List ℕ
grown_words lens old = first_rows (grown_row lens old) (sum lens + 1)
