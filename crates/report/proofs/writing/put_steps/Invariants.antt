use Rattle.std.proofs.Common.{◌≡◌, ◌++◌, map, take}
use Rattle.event_log.specs.LogText.{text_of}
use Rattle.report_lines.specs.Spelling.{step_line}
use Rattle.report.proofs.writing.put_steps.Given as goal

abbrev pub invariant-loop-step : goal.invariant-loop-step
invariant-loop-step l = l.out ≡ l.fn.out ++ text_of (map (step_line l.procs) (take l.step-index l.steps))
