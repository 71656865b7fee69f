use Rattle.std.proofs.Common.{◌≡◌, ◌≤◌, drop, length}
use Rattle.log_lines.specs.Reading.{text_at}
use Rattle.log_lines.proofs.words.text_at.Given as goal

abbrev pub invariant-loop-i : goal.invariant-loop-i
invariant-loop-i l = record { read : text_at l.text l.bytes ≡ text_at (drop l.i l.text) (drop l.i l.bytes); within : l.i ≤ length l.bytes }
