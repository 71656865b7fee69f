use Rattle.std.proofs.Common.{rules, arith}
use Rattle.std.specs.String.{string_bytes}
use Rattle.command_words.specs.inside.Seen.{given_seen}
use Rattle.command_words.proofs.WordByWord.{refused, went_on}
use Rattle.command_words.proofs.reading.are_in_form.Goals as goal

pub returns-then-not-branch : goal.returns-then-not-branch
returns-then-not-branch c = refused string_bytes c.args.words.now c.loop-word.word-index c.word-item.result (given_seen c.loop-word.reading) c.loop-word.invariant
    c.as_str.result.now (given_seen c.take.new.self) c.in_ok-take.field-0 (omega arith) (search rules) c.as_str.ensures.value c.in_ok-take.ensures c.if-not-branch.true

pub loop-word-preserved : goal.loop-word-preserved
loop-word-preserved c = went_on string_bytes c.args.words.now c.loop-word.word-index c.word-item.result (given_seen c.loop-word.reading) c.loop-word.invariant
    c.as_str.result.now (given_seen c.take.new.self) c.in_ok-take.field-0 (omega arith) (search rules) c.as_str.ensures.value c.in_ok-take.ensures c.if-not-branch.false
