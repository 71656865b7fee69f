use Rattle.std.proofs.Common.{◌≡◌, Some, map, drop}
use Rattle.std.specs.List.{fold}
use Rattle.std.specs.String.{string_bytes}
use Rattle.command_words.specs.Rule.{nothing_given, step}
use Rattle.command_words.specs.inside.Seen.{given_seen}
use Rattle.command_words.proofs.reading.are_in_form.Given as goal

abbrev pub invariant-loop-word : goal.invariant-loop-word
invariant-loop-word l =
    fold step (Some (given_seen l.reading)) (map string_bytes (drop l.word-index l.words)) ≡ fold step (Some nothing_given) (map string_bytes l.words)
