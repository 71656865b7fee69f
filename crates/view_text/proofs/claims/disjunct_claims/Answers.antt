use Rattle.std.proofs.Common.{◌≡◌, ◌+◌, ◌-◌, ◌++◌, [], List, ℕ, true, false, length, take, drop, get_or, sym, ap, ◌∙◌, arith}
use Rattle.std.proofs.lemmas.List.{take_rest, get_or_default}
use Rattle.rctl_grammar.specs.declared.token.Token.{Token}
use Rattle.view_text.specs.declared.claims.Claim.{Claim}
use Rattle.view_text.specs.declared.claims.Walk.{Walk}
use Rattle.view_text.specs.Claims.{claim_of, said, walked, start, is_outer_bar, disjunct_claims}
use Rattle.view_text.proofs.Walks.{ends_next, said_next, said_all, deeper}
use Rattle.view_text.proofs.claims.disjunct_claims.Goals.{then-is_outer_bar+in_ok-push, else-is_outer_bar+in_ok-put_said}
use Rattle.view_text.proofs.claims.disjunct_claims.Goals as goal

pub loop-i-preserved : goal.loop-i-preserved
loop-i-preserved c =
    let ts = c.args.tokens.now in
    let i = c.loop-i.i in
    let t = get_or ts i c.index-tokens-i.result in
    let w = c.loop-i.walk in
    let rest = drop (i + 1) ts in
    let next = c.if-is_outer_bar.texts in
    let now = c.if-is_outer_bar.text in
    let all = disjunct_claims start [] ts in
    let is = get_or_default ts i c.index-tokens-i.result t c.loop-i-test.true in
    let same : take (length ts - (i + 1)) rest ≡ rest = take_rest ts (i + 1) in
    let behind : c.walked-walk.result ≡ walked w t.kind rest = c.walked-walk.ensures ∙ ap (λ (xs : List Token). walked w t.kind xs) same in
    let on = ap (λ (v : Walk). next ++ disjunct_claims v now rest) behind in
    record {
      so_far = elim c.if-is_outer_bar.branch [
        | then-is_outer_bar+in_ok-push v ↦
            let ends : is_outer_bar w.depth t.kind ≡ true = sym c.is_outer_bar.ensures ∙ v.if-is_outer_bar.true in
            on ∙ ap (λ (x : List ℕ). next ++ disjunct_claims (walked w t.kind rest) x rest) (v.text-is ∙ v.new-text-then-is_outer_bar.ensures)
            ∙ ends_next w c.loop-i.text ts i t c.loop-i.texts next all c.loop-i-test.true is ends c.loop-i.invariant.so_far (v.texts-is ∙ v.in_ok-push.ensures.ok)
        | else-is_outer_bar+in_ok-put_said v ↦
            let goes : is_outer_bar w.depth t.kind ≡ false = sym c.is_outer_bar.ensures ∙ v.if-is_outer_bar.false in
            let claim : v.claim_of.result ≡ claim_of t.kind rest = v.claim_of.ensures ∙ ap (λ (xs : List Token). claim_of t.kind xs) same in
            let put = v.text-is ∙ v.in_ok-put_said.ensures ∙ ap (λ (x : Claim). c.loop-i.text ++ said w x) claim in
            on ∙ ap (λ (x : List (List ℕ)). x ++ disjunct_claims (walked w t.kind rest) now rest) v.texts-is
            ∙ said_next w c.loop-i.text now ts i t c.loop-i.texts all c.loop-i-test.true is goes c.loop-i.invariant.so_far put
      ];
      deep = omega (arith, ap (λ (v : Walk). v.depth) behind, deeper w.depth t.kind, c.loop-i.invariant.deep);
    }

pub returns : goal.returns
returns c = c.in_ok-push-2.ensures.ok ∙ said_all c.loop-i.walk c.loop-i.text c.args.tokens.now c.loop-i.i c.loop-i.texts _ c.loop-i-test.false c.loop-i.invariant.so_far
