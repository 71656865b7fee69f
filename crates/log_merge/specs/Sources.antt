-- The sources: one log for each process, or for none, and the lines that they have of it.
use Rattle.std.specs.Prelude.{ℕ, ◌+◌, ◌≤◌, Bool, ◌==◌, List, [], ◌∷◌, ◌++◌, length, map, Option}
use Rattle.std.specs.Prelude.{None, Some, slice_get, sum_by, flat_map, if◌then◌else◌}
use Rattle.std.specs.List.{AllByRecursion, list_any}
use Rattle.std.specs.Option.{option_map}
use Rattle.pota_base.specs.Limits.{most_events}
use Rattle.log_lines.specs.Reading.{choose}
use Rattle.event_log.specs.declared.log.Event.{Event}
use Rattle.event_log.specs.declared.log.Log.{Log}
use Rattle.event_log.specs.LogText.{HeaderFits, EventFits, HasVarLines}
use Rattle.log_merge.specs.declared.seen.Seen.{Seen}
use Rattle.log_merge.specs.declared.seen.Seen.TheVariants.{Nothing, One, Two}

-- a `vars` or `ev` line, with its process
pub record OwnLine : Type 0 where
  pub process : ℕ
  pub line : ℕ

-- the `vars` lines that are noted for the processes from this one on; 0 is none
abbrev pub own_vars_lines : ℕ → List ℕ → List OwnLine
own_vars_lines process [] = []
own_vars_lines process (line ∷ lines) =
    if line == 0 then own_vars_lines (process + 1) lines
    else record { process = process; line = line } ∷ own_vars_lines (process + 1) lines

abbrev pub own_event_lines : List Event → List OwnLine
own_event_lines events = map (λ (e : Event). record { process = e.process; line = e.line }) events

-- the events of batches in their order
abbrev pub all_events : List (List Event) → List Event
all_events batches = flat_map (λ (batch : List Event). batch) batches

-- the events of a source, in the order of its text
abbrev pub events_of : Log → List Event
events_of source = all_events source.batches

-- What reading gives of a log, but for its batches: a header with its lines, and events that fit
-- it.
pub record IsSource (source : Log) : Type 0 where
  pub header : HeaderFits source.header
  pub lines : HasVarLines source.header
  pub events : AllByRecursion (EventFits source.header) (events_of source)
  pub few : length (events_of source) ≤ most_events

-- the log with all its events in one batch
abbrev pub in_one_batch : Log → Log
in_one_batch log = record log { batches = events_of log ∷ [] }

-- all lines of processes that the source has, in the order of its text
abbrev pub own_lines : Log → List OwnLine
own_lines source = own_vars_lines 0 source.header.var_lines ++ own_event_lines (events_of source)

-- whether the source has a line of the process
abbrev pub has_lines_of : ℕ → Log → Bool
has_lines_of process source = list_any (λ (l : OwnLine). l.process == process) (own_lines source)

-- the first line of another process
abbrev pub another : ℕ → List OwnLine → Option OwnLine
another process [] = None
another process (l ∷ ls) = if process == l.process then another process ls else Some l

-- of which processes these lines are
abbrev pub seen_of : List OwnLine → Seen
seen_of [] = Nothing
seen_of (l ∷ ls) = choose (another l.process ls) (λ k. Two k.line) (One l.process l.line)

-- the line of the event of this index, counted from 0
abbrev pub line_at : ℕ → List Event → Option ℕ
line_at index events = option_map (λ (e : Event). e.line) (slice_get events index)

-- how many events the sources have
abbrev pub events_in : List Log → ℕ
events_in sources = sum_by (λ (s : Log). length (events_of s)) sources
