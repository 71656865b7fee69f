use Rattle.std.proofs.Common.{◌≡◌, ℕ, ◌<◌, false, get_or}
use Rattle.view_text.specs.Folding.{ends_word}
use Rattle.view_text.proofs.folding.word_len.Given as goal

abbrev pub invariant-loop-i : goal.invariant-loop-i
invariant-loop-i l = (k : ℕ) → k < l.i → ends_word (get_or l.bytes k 0) ≡ false
