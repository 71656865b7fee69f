use Rattle.std.proofs.Common.{◌≡◌, ◌++◌, drop}
use Rattle.event_log.specs.LogText.{batch_lines, text_of}
use Rattle.log_writing.proofs.writing.put_batches.Given as goal

abbrev pub invariant-batches : goal.invariant-batches
invariant-batches l = l.out ++ text_of (batch_lines l.header (drop l.i l.batches)) ≡ l.fn.out ++ text_of (batch_lines l.header l.batches)
