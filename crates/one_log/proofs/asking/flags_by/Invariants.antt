use Rattle.std.proofs.Common.{◌≡◌, map, drop}
use Rattle.std.specs.String.{string_bytes}
use Rattle.kept_names.specs.Words.{others_from}
use Rattle.one_log.specs.Asking.{with_words, flags_by}
use Rattle.one_log.proofs.Words.{under}
use Rattle.one_log.proofs.asking.flags_by.Given as goal

abbrev pub invariant-loop-word : goal.invariant-loop-word
invariant-loop-word l = under (with_words l.flags (others_from l.waits (map string_bytes (drop l.word-index l.words)))) ≡ flags_by (map string_bytes l.words)
