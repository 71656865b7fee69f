use Rattle.std.proofs.Common.{◌≡◌, ◌++◌, take}
use Rattle.log_lines.specs.Spelling.{values_text}
use Rattle.event_log.specs.LogText.{named_values}
use Rattle.view_parts.proofs.parts.put_each_assign.Given as goal

abbrev pub invariant-loop-assign : goal.invariant-loop-assign
invariant-loop-assign l = l.out ≡ l.fn.out ++ values_text (named_values l.variables (take l.assign-index l.assigns))
