-- What is left of a text whose host lines are read one after the other.
use Rattle.std.specs.Prelude.{◌≡◌, ℕ, ◌+◌, Bool, List, [], ◌∷◌, map}
use Rattle.vclog_import.specs.declared.host_lines.HostLine.{HostLine}
use Rattle.vclog_import.specs.declared.host_lines.HostLines.{HostLines}
use Rattle.vclog_import.specs.Lines.{Line, Record, lines_in, feeds, records_in, is_due_behind}

-- a host line as its values
abbrev pub record_of : HostLine → Record
record_of l = record { line = l.line; host = l.host.now; clock = l.clock.now }

abbrev pub records : List HostLine → List Record
records lines = map record_of lines

abbrev pub lines_left : HostLines → List Line
lines_left h = lines_in h.unfinished h.rest.now

-- the records that are still to come
abbrev pub left : HostLines → List Record
left h = records_in h.is_due h.line (lines_left h)

-- whether a host line is due at the end
abbrev pub due_at_end : HostLines → Bool
due_at_end h = is_due_behind h.is_due (lines_left h)

-- the line on which the input ends
abbrev pub line_at_end : HostLines → ℕ
line_at_end h = feeds h.rest.now + h.line

-- what doesn't change as lines are taken
pub record Goes (old new : HostLines) : Type 0 where
  pub unfinished_is : new.unfinished ≡ old.unfinished
  pub line_is : line_at_end new ≡ line_at_end old

-- one line was taken
pub record TakesLine (old new : HostLines) (line : Line) : Type 0 where
  pub goes : Goes old new
  pub lines_are : lines_left old ≡ line ∷ lines_left new
  pub numbers : (is_due : Bool)
      → records_in is_due new.line (lines_left new)
      ≡ records_in is_due (old.line + 1) (lines_left new)
  pub due_is : new.is_due ≡ old.is_due

-- there was no line more
pub record EndsLines (old new : HostLines) : Type 0 where
  pub goes : Goes old new
  pub none : lines_left old ≡ []
  pub rest_is : new.rest.now ≡ []
  pub due_is : new.is_due ≡ old.is_due

-- the next record was taken
pub record Gives (old new : HostLines) (r : Record) : Type 0 where
  pub goes : Goes old new
  pub left_is : left old ≡ r ∷ left new
  pub due_is : due_at_end new ≡ due_at_end old

-- there was no record more
pub record Ends (old new : HostLines) : Type 0 where
  pub goes : Goes old new
  pub none : left old ≡ []
  pub rest_is : new.rest.now ≡ []
  pub due_is : new.is_due ≡ due_at_end old
