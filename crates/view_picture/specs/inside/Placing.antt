-- How the columns of a run are made: event by event, each behind those before it.
use Rattle.std.specs.Prelude.{◌≡◌, ℕ, zero, suc, ◌+◌, ◌-◌, ◌<◌, ◌≤◌, max, sum, Bool, List, [], ◌∷◌}
use Rattle.std.specs.Prelude.{length, get_or, if◌then◌else◌}
use Rattle.pota_base.specs.declared.shape.EventId.{EventId}
use Rattle.run_model.specs.Cut.{Cut, Clocks, count, lengths, with_next}
use Rattle.run_model.specs.Consistent.{IsEvent, IsConsistent}
use Rattle.pota_base.specs.Limits.{most_processes}
use Rattle.view_parts.specs.Each.{each_below}
use Rattle.view_parts.specs.Parts.{place}
use Rattle.view_picture.specs.Columns.{Rows, column}
use Rattle.view_picture.specs.Shown.{last_shown}
use Rattle.view_picture.specs.Ties.{known}

-- the process has a next event, and the cut with it is consistent
abbrev pub MayTake : Clocks → Cut → ℕ → Type 0
MayTake o c p = (count c p < count (lengths o) p) × IsConsistent o (with_next c p)

-- the greatest of the numbers that are made of those below n, and 0 where there is none
unfoldable pub greatest_below : (ℕ → ℕ) → ℕ → ℕ
greatest_below made zero = zero
greatest_below made (suc n) = max (greatest_below made n) (made n)

-- the greatest column of the events that happened before this one
abbrev pub greatest_before : Clocks → Rows → EventId → ℕ
greatest_before o rows e =
    greatest_below (λ process. column rows process (known o e process)) (length o)

-- a shown event is in the column behind it, another one where the event before it is
abbrev pub column_due : Clocks → (EventId → Bool) → Rows → EventId → ℕ
column_due o shown rows e =
    if shown e then greatest_before o rows e + 1 else column rows e.process (e.position - 1)

-- the events of a consistent cut have the columns that are due, none beyond their number
pub record HavePlaces (o : Clocks) (shown : EventId → Bool) (c : Cut) (rows : Rows) : Type 0 where
  pub procs : length rows ≡ length o
  pub consistent : IsConsistent o c
  pub widths : (p : ℕ) → p < length o → length (get_or rows p []) ≡ count c p + 1
  pub opening : (p : ℕ) → column rows p 0 ≡ 0
  pub each : (i a : ℕ) → IsEvent c i a → column rows i a ≡ column_due o shown rows (place i a)
  pub few : (i a : ℕ) → a ≤ count c i → column rows i a ≤ sum c

-- for each number of events of a process the position of the last shown one
abbrev pub latest_of : Rows → ℕ → List ℕ
latest_of rows process =
    each_below (length (get_or rows process [])) (λ events. last_shown rows process events ∷ [])

pub record AreLatest (rows latest : Rows) : Type 0 where
  pub few : length rows ≤ most_processes
  pub procs : length latest ≡ length rows
  pub each : (p : ℕ) → get_or latest p [] ≡ latest_of rows p

-- each process has 0 and a column for each of its events
pub record RowsFit (o : Clocks) (rows : Rows) : Type 0 where
  pub procs : length rows ≡ length o
  pub widths : (p : ℕ) → p < length o → length (get_or rows p []) ≡ count (lengths o) p + 1
