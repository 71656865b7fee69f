use Rattle.std.proofs.Common.{rules, arith, ◌∙◌}
use Rattle.std.specs.String.{string_bytes}
use Rattle.one_log.proofs.Words.{all_words, taken, refused}
use Rattle.one_log.proofs.asking.flags_by.Goals as goal

pub loop-word-preserved : goal.loop-word-preserved
loop-word-preserved c =
    taken string_bytes c.args.words.now c.loop-word.word-index c.loop-word.flags c.loop-word.waits c.loop-word.invariant c.word-item.result c.as_bytes-bytes.result.now (omega arith) (search rules) c.as_bytes-bytes.ensures.value
    c.in-Some.next c.in-Some.ensures c.waits_behind-waits.result c.waits_behind-waits.ensures

pub returns-in-None : goal.returns-in-None
returns-in-None c =
    refused string_bytes c.args.words.now c.loop-word.word-index c.loop-word.flags c.loop-word.waits c.loop-word.invariant c.word-item.result c.as_bytes-bytes.result.now (omega arith) (search rules) c.as_bytes-bytes.ensures.value
    c.in-None.ensures

pub returns : goal.returns
returns c =
    c.if_taken.ensures ∙ all_words string_bytes c.args.words.now c.loop-word.word-index c.loop-word.flags c.loop-word.waits c.loop-word.invariant (omega arith)
