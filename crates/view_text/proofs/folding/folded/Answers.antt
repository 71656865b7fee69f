use Rattle.std.proofs.Common.{◌≡◌, ◌++◌, ◌∷◌, ℕ, ◌+◌, ◌-◌, List, length, take, drop, get_or, sym, ap, subst, ◌∙◌, arith}
use Rattle.std.proofs.lemmas.List.{take_rest, at_drop_more, at_drop_all, append-nil}
use Rattle.view_text.specs.Folding.{folded, AreShort}
use Rattle.view_text.proofs.Folds.{folded_short, folded_none}
use Rattle.view_text.proofs.folding.folded.Goals as goal

pub loop-i-preserved : goal.loop-i-preserved
loop-i-preserved c =
    let text = c.args.text.now in
    let i = c.loop-i.i in
    let rest : take (length text - (i + 1)) (drop (i + 1) text) ≡ drop (i + 1) text = take_rest text (i + 1) in
    record {
      text = ap (λ (x : List ℕ). c.put_byte.new.out ++ folded c.in_ok-column.column x) (sym rest) ∙ c.in_ok-column.ensures.text
          ∙ ap (λ (x : List ℕ). c.loop-i.out ++ folded c.loop-i.column (get_or text i 0 ∷ x)) rest
          ∙ ap (λ (x : List ℕ). c.loop-i.out ++ x) (sym (at_drop_more (folded c.loop-i.column) text i 0 c.loop-i-test.true)) ∙ c.loop-i.invariant.text;
      most = c.in_ok-column.ensures.most;
    }

pub returns-clause-folded : goal.returns-clause-folded
returns-clause-folded c = sym (append-nil c.loop-i.out) ∙ ap (λ (x : List ℕ). c.loop-i.out ++ x) (sym (at_drop_all (folded c.loop-i.column) c.args.text.now c.loop-i.i c.loop-i-test.false ∙ folded_none c.loop-i.column)) ∙ c.loop-i.invariant.text

pub returns-clause-short : goal.returns-clause-short
returns-clause-short c =
    let is : c.loop-i.out ≡ folded 0 c.args.text.now = sym (append-nil c.loop-i.out) ∙ ap (λ (x : List ℕ). c.loop-i.out ++ x) (sym (at_drop_all (folded c.loop-i.column) c.args.text.now c.loop-i.i c.loop-i-test.false ∙ folded_none c.loop-i.column)) ∙ c.loop-i.invariant.text in
    subst (AreShort 0) (sym is) (folded_short 0 c.args.text.now (omega arith))
