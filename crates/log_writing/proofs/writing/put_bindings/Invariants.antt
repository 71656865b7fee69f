use Rattle.std.proofs.Common.{◌≡◌, ◌++◌, take}
use Rattle.log_lines.specs.Spelling.{values_text}
use Rattle.event_log.specs.LogText.{values_of}
use Rattle.log_writing.proofs.writing.put_bindings.Given as goal

abbrev pub invariant-loop-binding : goal.invariant-loop-binding
invariant-loop-binding l = l.out ≡ l.fn.out ++ values_text (values_of (take l.binding-index l.bindings))
