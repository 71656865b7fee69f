use Rattle.std.proofs.Common.{◌≡◌, ◌+◌, ◌++◌, [], ◌∷◌, List, ℕ, true, false, drop, sym, ap, ◌∙◌, arith}
use Rattle.view_text.specs.Alternatives.{between, alternatives}
use Rattle.view_text.specs.Claims.{depth_behind, is_outer_bar}
use Rattle.view_text.proofs.Walks.{bar_next, within_next, alternatives_all, deeper}
use Rattle.view_text.proofs.alternatives.alternatives.Goals.{then-is_outer_bar+in_ok-copy_of+in_ok-push, else-is_outer_bar}
use Rattle.view_text.proofs.alternatives.alternatives.Goals as goal

pub loop-i-preserved : goal.loop-i-preserved
loop-i-preserved c =
    let f = c.args.formula.now in
    let ts = c.args.tokens.now in
    let i = c.loop-i.i in
    let t = c.index-tokens-i.result in
    let depth = c.loop-i.depth in
    let begin = c.loop-i.begin in
    let rest = drop (i + 1) ts in
    let next = c.if-is_outer_bar.texts in
    let from = c.if-is_outer_bar.begin in
    let deep_now = c.if-is_outer_bar.depth in
    let all = alternatives f 0 0 ts in
    let is = c.index-tokens-i.is in
    elim c.if-is_outer_bar.branch [
      | then-is_outer_bar+in_ok-copy_of+in_ok-push v ↦
          let bar : is_outer_bar depth t.kind ≡ true = sym c.is_outer_bar.ensures ∙ v.if-is_outer_bar.true in
          let text = v.in_ok-copy_of.ensures ∙ v.between.ensures ∙ ap (λ (n : ℕ). between f begin n) v.saturating_sub.ensures in
          let put = v.texts-is ∙ v.in_ok-push.ensures.ok ∙ ap (λ (x : List ℕ). c.loop-i.texts ++ x ∷ []) text in
          record {
            so_far = ap (λ (n : ℕ). next ++ alternatives f n deep_now rest) v.begin-is ∙ ap (λ (n : ℕ). next ++ alternatives f (t.at + 2) n rest) v.depth-is
                ∙ bar_next f begin depth ts i t c.loop-i.texts next all c.loop-i-test.true is bar c.loop-i.invariant.so_far put;
            deep = omega (arith, v.depth-is, c.loop-i.invariant.deep);
          }
      | else-is_outer_bar v ↦
          let within : is_outer_bar depth t.kind ≡ false = sym c.is_outer_bar.ensures ∙ v.if-is_outer_bar.false in
          let behind : deep_now ≡ depth_behind depth t.kind = v.depth-is ∙ v.depth_behind-depth.ensures in
          record {
            so_far = ap (λ (n : ℕ). next ++ alternatives f n deep_now rest) v.begin-is ∙ ap (λ (n : ℕ). next ++ alternatives f begin n rest) behind
                ∙ ap (λ (x : List (List ℕ)). x ++ alternatives f begin (depth_behind depth t.kind) rest) v.texts-is
                ∙ within_next f begin depth ts i t c.loop-i.texts all c.loop-i-test.true is within c.loop-i.invariant.so_far;
            deep = omega (arith, behind, deeper depth t.kind, c.loop-i.invariant.deep);
          }
    ]

pub returns : goal.returns
returns c =
    let f = c.args.formula.now in
    c.in_ok-push-2.ensures.ok ∙ ap (λ (x : List ℕ). c.loop-i.texts ++ x ∷ []) (c.in_ok-copy_of-2.ensures ∙ c.between-2.ensures)
    ∙ alternatives_all f c.loop-i.begin c.loop-i.depth c.args.tokens.now c.loop-i.i c.loop-i.texts _ c.loop-i-test.false c.loop-i.invariant.so_far
