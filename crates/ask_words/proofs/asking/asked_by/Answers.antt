use Rattle.std.proofs.Common.{arith, sym, ◌∙◌}
use Rattle.std.specs.String.{string_bytes}
use Rattle.ask_words.proofs.Words.{no_question, questions, refused, taken}
use Rattle.ask_words.proofs.asking.asked_by.Goals as goal

pub returns-then-not-is_of_options-clause-asked : goal.returns-then-not-is_of_options-clause-asked
returns-then-not-is_of_options-clause-asked c =
    c.asked_with.ensures.asked
    ∙ questions string_bytes c.args.words.now c.loop-i.i c.loop-i.options c.loop-i.invariant c.index-words-i.result c.as_bytes-word.result.now c.loop-i-test.true c.index-words-i.is c.as_bytes-word.ensures.value
    (sym c.if-not-is_of_options.true ∙ c.is_of_options.ensures)

pub returns-in-None-clause-asked : goal.returns-in-None-clause-asked
returns-in-None-clause-asked c =
    refused string_bytes c.args.words.now c.loop-i.i c.loop-i.options c.loop-i.invariant c.index-words-i.result c.as_bytes-word.result.now c.loop-i-test.true c.index-words-i.is c.as_bytes-word.ensures.value
    (sym c.if-not-is_of_options.false ∙ c.is_of_options.ensures) (sym c.with_option.ensures ∙ c.in-None.is)

pub loop-i-preserved : goal.loop-i-preserved
loop-i-preserved c =
    taken string_bytes c.args.words.now c.loop-i.i c.loop-i.options c.loop-i.invariant c.index-words-i.result c.as_bytes-word.result.now c.loop-i-test.true c.index-words-i.is c.as_bytes-word.ensures.value
    (sym c.if-not-is_of_options.false ∙ c.is_of_options.ensures) c.in-Some.next (sym c.with_option.ensures ∙ c.in-Some.is)

pub returns-clause-asked : goal.returns-clause-asked
returns-clause-asked c =
    no_question string_bytes c.args.words.now c.loop-i.i c.loop-i.options c.loop-i.invariant (omega arith)
