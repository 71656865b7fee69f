use Rattle.std.proofs.Common.{◌≡◌, ◌+◌, drop}
use Rattle.question_text.specs.Bytes.{run_of}
use Rattle.question_text.specs.inside.Classes.{is_of}
use Rattle.question_text.proofs.bytes.run_of.Given as goal

abbrev pub invariant-loop-i : goal.invariant-loop-i
invariant-loop-i l = run_of (is_of l.class) l.bytes ≡ run_of (is_of l.class) (drop l.i l.bytes) + l.i
