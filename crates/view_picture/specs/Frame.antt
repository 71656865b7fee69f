-- Where everything stands in the picture.
use Rattle.std.specs.Prelude.{ℕ, ◌+◌, ◌-◌, ◌*◌, min, max, Bool, true, false, List, length, fold}
use Rattle.std.specs.Prelude.{nat_le}
use Rattle.pota_base.specs.declared.shape.EventId.{EventId}
use Rattle.log_lines.specs.Names.{Name}
use Rattle.event_log.specs.States.{StatesView}
use Rattle.report.specs.declared.report.Report.{Report}
use Rattle.view_picture.specs.declared.svg.Point.{Point}
use Rattle.view_picture.specs.declared.frame.Frame.{Frame}
use Rattle.view_picture.specs.Columns.{Rows, column}
use Rattle.view_picture.specs.Shown.{has_shown, rank}
use Rattle.std.specs.Prelude.{get_or}
use Rattle.std.specs.List.{count_by}
use Rattle.pota_base.specs.Limits.{longest_canonical, longest_name}

-- how many bytes the longest of the names has, at most 64
abbrev pub longest : List Name → ℕ
longest names = min (fold (λ n name. max n (length name)) 0 names) longest_name

-- the greatest column
abbrev pub most : Rows → ℕ
most rows = fold (λ n row. max n (get_or row (length row - 1) 0)) 0 rows

abbrev pub left_of : StatesView → ℕ
left_of s = 40 + 9 * longest s.header.procs

-- up to 60 columns each has room for long assignments of its events
abbrev pub are_wide : Rows → Bool
are_wide rows = nat_le (most rows) 60

-- where a column is
abbrev pub column_at : ℕ → Bool → ℕ → ℕ
column_at left true column = left + 78 * column
column_at left false column = left + 48 * column

-- the formula stands on one line
abbrev pub heading_width : Report → ℕ
heading_width r = 40 + 9 * min (length r.formula) longest_canonical

abbrev pub frame_of : StatesView → Rows → Report → Frame
frame_of s rows r = record {
  left = left_of s;
  wide = are_wide rows;
  width =
      max (max (column_at (left_of s) (are_wide rows) (most rows) + 60) (heading_width r)) 560;
  height = 150 + 96 * count_by has_shown rows + 120;
}

-- processes that have a shown event have their lanes one below the other
abbrev pub lane : Rows → ℕ → ℕ
lane rows process = 150 + 96 * rank rows process

-- where the last of so many events of a process stands, and where its lane begins before the first
abbrev pub behind : Frame → Rows → ℕ → ℕ → Point
behind f rows process events =
    record { x = column_at f.left f.wide (column rows process events); y = lane rows process }

-- where an event stands
abbrev pub at : Frame → Rows → EventId → Point
at f rows e = behind f rows e.process e.position
