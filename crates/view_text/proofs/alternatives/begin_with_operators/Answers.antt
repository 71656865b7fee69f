use Rattle.std.proofs.Common.{◌≡◌, ◌+◌, ◌-◌, List, Bool, true, false, refl, length, take, drop, get_or, sym, ap, ◌∙◌, arith}
use Rattle.std.specs.Prelude.{◌&&◌}
use Rattle.std.proofs.lemmas.List.{take_rest, get_or_default}
use Rattle.rctl_grammar.specs.declared.token.Token.{Token}
use Rattle.view_text.specs.declared.claims.Claim.{Claim}
use Rattle.view_text.specs.declared.claims.Walk.{Walk}
use Rattle.view_text.specs.Alternatives.{is_first, begin_with_operators}
use Rattle.view_text.specs.Claims.{is_plain, claim_of, walked}
use Rattle.view_text.proofs.Walks.{plain_here, operators_next, operators_all, deeper}
use Rattle.view_text.proofs.alternatives.begin_with_operators.Goals.{else-is_first-via-then-is_first+else-is_plain, else-is_first-via-else-is_first}
use Rattle.view_text.proofs.alternatives.begin_with_operators.Goals as goal

and_false : (b : Bool) → (b && false) ≡ false
and_false true = refl
and_false false = refl

pub returns-then-is_plain : goal.returns-then-is_plain
returns-then-is_plain c =
    let ts = c.args.tokens.now in
    let i = c.loop-i.i in
    let t = get_or ts i c.index-tokens-i.result in
    let w = c.loop-i.walk in
    let rest = drop (i + 1) ts in
    let is = get_or_default ts i c.index-tokens-i.result t c.loop-i-test.true in
    let claim : c.claim_of.result ≡ claim_of t.kind rest = c.claim_of.ensures ∙ ap (λ (xs : List Token). claim_of t.kind xs) (take_rest ts (i + 1)) in
    let first : is_first w.stand ≡ true = sym c.is_first.ensures ∙ c.if-is_first.true in
    let plain : is_plain (claim_of t.kind rest) ≡ true = ap (λ (x : Claim). is_plain x) (sym claim) ∙ sym c.is_plain.ensures ∙ c.if-is_plain.true in
    let both : (is_first w.stand && is_plain (claim_of t.kind rest)) ≡ true = ap (λ (b : Bool). b && is_plain (claim_of t.kind rest)) first ∙ plain in
    sym (plain_here w ts i t c.loop-i-test.true is both) ∙ c.loop-i.invariant.so_far

pub loop-i-preserved : goal.loop-i-preserved
loop-i-preserved c =
    let ts = c.args.tokens.now in
    let i = c.loop-i.i in
    let t = get_or ts i c.index-tokens-i.result in
    let w = c.loop-i.walk in
    let rest = drop (i + 1) ts in
    let is = get_or_default ts i c.index-tokens-i.result t c.loop-i-test.true in
    let same : take (length ts - (i + 1)) rest ≡ rest = take_rest ts (i + 1) in
    let behind : c.walked-walk.result ≡ walked w t.kind rest = c.walked-walk.ensures ∙ ap (λ (xs : List Token). walked w t.kind xs) same in
    let neither : (is_first w.stand && is_plain (claim_of t.kind rest)) ≡ false = elim c.else-is_first.branch [
      | else-is_first-via-then-is_first+else-is_plain v ↦
          let claim : v.claim_of.result ≡ claim_of t.kind rest = v.claim_of.ensures ∙ ap (λ (xs : List Token). claim_of t.kind xs) same in
          let plain : is_plain (claim_of t.kind rest) ≡ false = ap (λ (x : Claim). is_plain x) (sym claim) ∙ sym v.is_plain.ensures ∙ v.if-is_plain.false in
          ap (λ (b : Bool). is_first w.stand && b) plain ∙ and_false (is_first w.stand)
      | else-is_first-via-else-is_first v ↦
          let first : is_first w.stand ≡ false = sym c.is_first.ensures ∙ v.if-is_first.false in
          ap (λ (b : Bool). b && is_plain (claim_of t.kind rest)) first
    ] in
    record {
      so_far = ap (λ (v : Walk). begin_with_operators v rest) behind ∙ sym (operators_next w ts i t c.loop-i-test.true is neither) ∙ c.loop-i.invariant.so_far;
      deep = omega (arith, ap (λ (v : Walk). v.depth) behind, deeper w.depth t.kind, c.loop-i.invariant.deep);
    }

pub returns : goal.returns
returns c = sym (operators_all c.loop-i.walk c.args.tokens.now c.loop-i.i c.loop-i-test.false) ∙ c.loop-i.invariant.so_far
