use Rattle.std.proofs.Common.{◌≡◌, ◌++◌, take}
use Rattle.event_log.specs.LogText.{text_of}
use Rattle.report.specs.Spelling.{lines_of_witnesses}
use Rattle.report.proofs.writing.put_witnesses.Given as goal

abbrev pub invariant-loop-witness : goal.invariant-loop-witness
invariant-loop-witness l = l.out ≡ l.fn.out ++ text_of (lines_of_witnesses l.procs (take l.witness-index l.witnesses))
