use Rattle.std.proofs.Common.{◌≡◌, ◌≤◌, length, take}
use Rattle.question_text.specs.Bytes.{end_of_words}
use Rattle.question_text.proofs.bytes.end_of_words.Given as goal

abbrev pub decreases-end : goal.decreases-end
decreases-end l = l.end

abbrev pub invariant-end : goal.invariant-end
invariant-end l = record {
  within : l.end ≤ length l.bytes;
  same : end_of_words l.bytes ≡ end_of_words (take l.end l.bytes);
}
