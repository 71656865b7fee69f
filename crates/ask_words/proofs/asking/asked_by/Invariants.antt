use Rattle.std.proofs.Common.{◌≡◌, drop, map, string_bytes}
use Rattle.ask_words.specs.Asking.{asked_by, asked_from}
use Rattle.ask_words.proofs.asking.asked_by.Given as goal

abbrev pub invariant-loop-i : goal.invariant-loop-i
invariant-loop-i l = asked_from l.options l.i (map string_bytes (drop l.i l.words)) ≡ asked_by (map string_bytes l.words)
