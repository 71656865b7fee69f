use Rattle.std.proofs.Common.{◌≡◌, map, drop}
use Rattle.std.specs.String.{string_bytes}
use Rattle.kept_names.specs.Words.{names_from, names_kept}
use Rattle.kept_names.proofs.words.names_kept.Given as goal

abbrev pub invariant-loop-word : goal.invariant-loop-word
invariant-loop-word l = names_from l.waits l.names (map string_bytes (drop l.word-index l.words)) ≡ names_kept (map string_bytes l.words)
