use Rattle.std.proofs.Common.{◌≡◌, ◌++◌, take}
use Rattle.log_lines.specs.Spelling.{values_text}
use Rattle.event_log.specs.LogText.{named_values}
use Rattle.log_writing.proofs.writing.put_assigns.Given as goal

abbrev pub invariant-loop-assign : goal.invariant-loop-assign
invariant-loop-assign l = l.out ≡ l.fn.out ++ values_text (named_values l.variables (take l.assign-index l.assigns))
