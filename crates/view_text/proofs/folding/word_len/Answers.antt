use Rattle.std.proofs.Common.{sym, ◌∙◌, arith}
use Rattle.std.proofs.lemmas.List.Sums.{position_or_len_is}
use Rattle.view_text.specs.Folding.{ends_word}
use Rattle.view_text.proofs.folding.word_len.Goals as goal

pub returns-then-ends_word-clause-count : goal.returns-then-ends_word-clause-count
returns-then-ends_word-clause-count c = sym (position_or_len_is ends_word c.args.bytes.now c.loop-i.i 0 (omega arith) c.loop-i.invariant (λ lt. sym c.ends_word.ensures ∙ c.if-ends_word.true))

pub returns-clause-count : goal.returns-clause-count
returns-clause-count c = sym (position_or_len_is ends_word c.args.bytes.now _ 0 (omega arith) (λ k lt. c.loop-i.invariant k (omega arith)) (λ lt. absurd (omega arith)))
