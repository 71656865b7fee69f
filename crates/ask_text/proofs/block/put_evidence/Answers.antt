use Rattle.std.proofs.Common.{◌≡◌, ◌++◌, List, ℕ, sym, ap, ◌∙◌, subst}
use Rattle.std.specs.Prelude.{OnOk, Some, None, option_copied}
use Rattle.ask_text.specs.Text.{block, path_of, evidence}
use Rattle.ask_text.proofs.Evidence.{shown_here, passed_over, no_more}
use Rattle.ask_text.proofs.block.put_evidence.Goals as goal

pub returns-in-Some : goal.returns-in-Some
returns-in-Some c =
    let s = c.args.told.now.states.now in
    let tokens = c.args.told.now.tokens.now in
    let e = c.args.told.now.extent in
    let all = evidence c.args.front.now c.args.none.now s tokens e c.args.form c.args.witnesses.now in
    let w = c.witness-item.result in
    let is_path : path_of w.witness ≡ Some c.in-Some.path.now = sym c.path_of.ensures ∙ ap option_copied c.in-Some.is in
    let here = shown_here c.args.front.now c.args.none.now s tokens e c.args.form c.args.witnesses.now c.loop-witness.witness-index w c.in-Some.path.now c.loop-witness-test.true c.witness-item.is c.loop-witness.invariant.rest is_path in
    let whole : c.loop-witness.out ++ block c.args.front.now s tokens e c.args.form w.witness c.in-Some.path.now ≡ c.args.out.now ++ all = ap (λ x. x ++ block c.args.front.now s tokens e c.args.form w.witness c.in-Some.path.now) c.loop-witness.invariant.out ∙ ap (λ x. c.args.out.now ++ x) (sym here) in
    subst (λ (x : List ℕ). OnOk c.put_block.result (c.put_block.new.out ≡ x)) whole c.put_block.ensures

pub loop-witness-preserved : goal.loop-witness-preserved
loop-witness-preserved c =
    let no_path : path_of c.witness-item.result.witness ≡ None = sym c.path_of.ensures ∙ ap option_copied c.in_default.is in
    record {
      out = c.loop-witness.invariant.out;
      rest = passed_over c.args.front.now c.args.none.now c.args.told.now.states.now c.args.told.now.tokens.now c.args.told.now.extent c.args.form c.args.witnesses.now c.loop-witness.witness-index c.witness-item.result c.loop-witness-test.true c.witness-item.is c.loop-witness.invariant.rest no_path;
    }

pub returns : goal.returns
returns c =
    let none = no_more c.args.front.now c.args.none.now c.args.told.now.states.now c.args.told.now.tokens.now c.args.told.now.extent c.args.form c.args.witnesses.now c.loop-witness.witness-index c.loop-witness-test.false c.loop-witness.invariant.rest in
    subst (λ (x : List ℕ). OnOk c.extend_from_slice.result (c.extend_from_slice.new.self ≡ x)) (ap (λ x. x ++ c.args.none.now) c.loop-witness.invariant.out ∙ ap (λ x. c.args.out.now ++ x) (sym none)) c.extend_from_slice.ensures.ok
