use Rattle.std.proofs.Common.{◌≡◌, map, drop}
use Rattle.std.specs.String.{string_bytes}
use Rattle.kept_log.specs.Unknown.{unknown_from, unknown_word}
use Rattle.kept_log.proofs.unknown.unknown_word.Given as goal

abbrev pub invariant-loop-word : goal.invariant-loop-word
invariant-loop-word l = (l.place ≡ l.word-index) × (unknown_from l.waits l.header l.word-index (map string_bytes (drop l.word-index l.words)) ≡ unknown_word l.header (map string_bytes l.words))
