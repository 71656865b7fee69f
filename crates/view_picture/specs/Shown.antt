-- Which events and processes are shown, by the columns of a run.
use Rattle.std.specs.Prelude.{ℕ, zero, suc, ◌-◌, Bool, nat_lt, List, length, take, get_or}
use Rattle.std.specs.Prelude.{if◌then◌else◌}
use Rattle.std.specs.List.{filter, count_by}
use Rattle.pota_base.specs.declared.shape.EventId.{EventId}
use Rattle.view_parts.specs.Each.{places}
use Rattle.view_parts.specs.Parts.{place}
use Rattle.view_picture.specs.Columns.{Rows, column}

-- exactly a shown event has another column than the one before it
abbrev pub is_shown : Rows → EventId → Bool
is_shown rows e =
    nat_lt (column rows e.process (e.position - 1)) (column rows e.process e.position)

-- the shown events of processes with these lengths
abbrev pub shown_events : List ℕ → Rows → List EventId
shown_events lens rows = filter (is_shown rows) (places lens)

-- the position of the last shown one of so many events of a process, and 0 where none is
unfoldable pub last_shown : Rows → ℕ → ℕ → ℕ
last_shown rows process zero = zero
last_shown rows process (suc n) =
    if is_shown rows (place process (suc n)) then suc n else last_shown rows process n

-- how many stand behind that one
abbrev pub left_out : Rows → ℕ → ℕ → ℕ
left_out rows process events = events - last_shown rows process events

-- whether the process of these columns has a shown event
abbrev pub has_shown : List ℕ → Bool
has_shown row = nat_lt 0 (get_or row (length row - 1) 0)

-- how many of the processes before this one have a shown event
abbrev pub rank : Rows → ℕ → ℕ
rank rows process = count_by has_shown (take process rows)
