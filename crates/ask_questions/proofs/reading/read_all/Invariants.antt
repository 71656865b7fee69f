use Rattle.std.proofs.Common.{map, string_bytes, take}
use Rattle.ask_questions.specs.inside.Added.{AreRead}
use Rattle.ask_questions.proofs.reading.read_all.Given as goal

abbrev pub invariant-loop-i : goal.invariant-loop-i
invariant-loop-i l = AreRead (map string_bytes (take l.i l.texts)) l.entries
