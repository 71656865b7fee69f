use Rattle.std.proofs.Common.{◌≡◌, drop, map, string_bytes}
use Rattle.ask_words.specs.Asking.{are_no_options}
use Rattle.ask_words.proofs.asking.are_questions.Given as goal

abbrev pub invariant-loop-word : goal.invariant-loop-word
invariant-loop-word l = are_no_options (map string_bytes (drop l.word-index l.words)) ≡ are_no_options (map string_bytes l.words)
