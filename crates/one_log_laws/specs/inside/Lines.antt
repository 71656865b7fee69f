-- Events as if they stood on no line, and on the lines of a text.
use Rattle.std.specs.Prelude.{ℕ, ◌+◌, List, [], ◌∷◌, length, map}
use Rattle.event_log.specs.Before.{headed}
use Rattle.event_log.specs.LogText.{header_lines}
use Rattle.event_log.specs.declared.log.Event.{Event}
use Rattle.event_log.specs.declared.log.Header.{Header}
use Rattle.event_log.specs.declared.log.Log.{Log}
use Rattle.vector_clock.specs.Events.{Events}
use Rattle.log_rules.specs.Judgement.{Prefix}

abbrev pub without_line : Event → Event
without_line e = record e { line = 0 }

abbrev pub without_lines : Events → Events
without_lines events = map (map without_line) events

-- on the lines from this one on
abbrev pub on_lines : (line : ℕ) → List Event → List Event
on_lines line [] = []
on_lines line (e ∷ es) = record e { line = line } ∷ on_lines (line + 1) es

-- each batch with the line that closes it
abbrev pub batches_on_lines : (line : ℕ) → List (List Event) → List (List Event)
batches_on_lines line [] = []
batches_on_lines line (b ∷ bs) = on_lines line b ∷ batches_on_lines (line + length b + 1) bs

-- the header in version 1
abbrev pub first_header : Header → Header
first_header h = headed 1 h.procs h.vars

-- the log in version 1, as reading its text gives it
abbrev pub as_read : Prefix → Log
as_read log = record {
  header = first_header log.header;
  batches = batches_on_lines (length (header_lines (first_header log.header)) + 1) log.batches;
}
