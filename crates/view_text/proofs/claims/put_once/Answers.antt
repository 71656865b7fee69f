use Rattle.std.proofs.Common.{◌++◌, [], List, ℕ, take, ap, ◌∙◌}
use Rattle.std.proofs.lemmas.List.{get_or_default}
use Rattle.view_text.specs.Claims.{told_new, told_once}
use Rattle.view_text.proofs.Walks.{once_next, once_all}
use Rattle.view_text.proofs.claims.put_once.Goals as goal

pub loop-i-preserved : goal.loop-i-preserved
loop-i-preserved c =
    let texts = c.args.texts.now in
    let i = c.loop-i.i in
    let text = c.as_slice.ensures ∙ c.index-texts-i.is ∙ get_or_default texts i c.index-texts-i.result [] c.loop-i-test.true in
    let put = c.in_ok-put_new.ensures ∙ ap (λ (x : List ℕ). c.loop-i.out ++ told_new (take i texts) x) text in
    once_next texts i c.loop-i.out c.put_new.new.out (c.args.out.now ++ told_once [] texts) c.loop-i-test.true c.loop-i.invariant put

pub returns : goal.returns
returns c = once_all c.args.texts.now c.loop-i.i c.loop-i.out _ c.loop-i-test.false c.loop-i.invariant
