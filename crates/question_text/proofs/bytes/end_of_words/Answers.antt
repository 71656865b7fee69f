use Rattle.std.proofs.Common.{◌-◌, sym, ◌∙◌, arith}
use Rattle.question_text.proofs.Ends.{last_blank, last_word}
use Rattle.question_text.proofs.bytes.end_of_words.Goals as goal

pub end-preserved : goal.end-preserved
end-preserved c = record {
  within = omega (arith, c.end.invariant.within);
  same = c.end.invariant.same ∙ last_blank c.args.bytes.now c.end.end (c.end.end - 1) _ (omega (arith, c.end-test.true)) c.end.invariant.within (sym c.is_blank.ensures ∙ c.if-is_blank.true);
}

pub returns-else-is_blank-clause-end : goal.returns-else-is_blank-clause-end
returns-else-is_blank-clause-end c =
    sym (c.end.invariant.same ∙ last_word c.args.bytes.now c.end.end (c.end.end - 1) _ (omega (arith, c.end-test.true)) c.end.invariant.within (sym c.is_blank.ensures ∙ c.if-is_blank.false))
