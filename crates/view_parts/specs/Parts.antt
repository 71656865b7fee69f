-- What both views say of an event, and which reports are those of a run.
use Rattle.std.specs.Prelude.{◌≡◌, ℕ, ◌-◌, List, [], ◌++◌, ◌∷◌, length, map, get_or, slice_index_or}
use Rattle.std.specs.Prelude.{codes}
use Rattle.std.specs.Fmt.{decimal}
use Rattle.pota_base.specs.declared.shape.EventId.{EventId}
use Rattle.log_lines.specs.Names.{Name}
use Rattle.log_lines.specs.Spelling.{action_text, values_text}
use Rattle.event_log.specs.declared.log.Event.{Event}
use Rattle.event_log.specs.declared.log.Kind.TheVariants as kind
use Rattle.event_log.specs.Numbers.{binding_names, variables_at}
use Rattle.event_log.specs.LogText.{name_at, action_of, named_values}
use Rattle.event_log.specs.States.{StatesView}
use Rattle.report.specs.declared.report.Report.{Report}

-- the report is one of the run: it has its processes, and as many events of each
pub record IsReportOf (s : StatesView) (r : Report) : Type 0 where
  pub procs : r.procs ≡ s.header.procs
  pub lengths : r.lengths ≡ map length s.events

-- what stands where there is no event
abbrev pub no_event : Event
no_event = record { process = 0; line = 0; clock = []; kind = kind.Internal; assigns = [] }

-- the event at a position of a process, counted from 1
abbrev pub event_at : StatesView → EventId → Event
event_at s e = slice_index_or (get_or s.events e.process []) (e.position - 1) no_event

abbrev pub place : ℕ → ℕ → EventId
place process position = record { process = process; position = position }

-- the name of a variable of a process
abbrev pub variable_name : StatesView → ℕ → ℕ → Name
variable_name s process variable =
    name_at (binding_names (variables_at s.header.vars process)) variable

-- `NAME POSITION`
abbrev pub place_text : List Name → EventId → List ℕ
place_text procs e = name_at procs e.process ++ 32 ∷ decimal e.position

-- `line NUMBER`, the line of the log that spells the event
abbrev pub line_text : StatesView → EventId → List ℕ
line_text s e = codes "line " ++ decimal (event_at s e).line

-- `int`, `send NAME ID` or `recv NAME ID`, as the log spells it
abbrev pub kind_text : StatesView → EventId → List ℕ
kind_text s e = action_text (action_of s.header.procs (event_at s e).kind)

-- ` NAME=INT` for each assignment of the event, as the log spells it
abbrev pub assigns_text : StatesView → EventId → List ℕ
assigns_text s e =
    values_text (named_values (variables_at s.header.vars e.process) (event_at s e).assigns)
