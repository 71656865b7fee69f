use Rattle.std.proofs.Common.{◌≡◌, ◌+◌, drop}
use Rattle.log_lines.specs.Names.{is_name_byte}
use Rattle.log_lines.specs.Reading.{front}
use Rattle.log_lines.proofs.words.name_len.Given as goal

abbrev pub invariant-loop-i : goal.invariant-loop-i
invariant-loop-i l = front is_name_byte l.bytes ≡ front is_name_byte (drop l.i l.bytes) + l.i
