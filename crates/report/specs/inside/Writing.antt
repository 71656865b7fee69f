-- What the writing of a report asks of its parts: the processes of their events have names.
use Rattle.std.specs.Prelude.{◌<◌, List, length}
use Rattle.std.specs.List.{AllByRecursion}
use Rattle.pota_base.specs.declared.shape.EventId.{EventId}
use Rattle.log_lines.specs.Names.{Name}
use Rattle.report_lines.specs.PassedOn.{Edge}
use Rattle.report_lines.specs.declared.kinds.WitnessText.{WitnessText}
use Rattle.report_lines.specs.Spelling.{IsNamed}
use Rattle.report_lines.specs.Reading.{steps_of}

-- an event of a process that has a name
abbrev pub IsOf : List Name → EventId → Type 0
IsOf procs e = e.process < length procs

-- an edge between such events
abbrev pub Joins : List Name → Edge → Type 0
Joins procs e = IsOf procs e.cause × IsOf procs e.effect

-- a witness that speaks of such events alone
abbrev pub IsTold : List Name → WitnessText → Type 0
IsTold procs w = IsNamed procs w.witness × AllByRecursion (IsOf procs) (steps_of w.witness)
