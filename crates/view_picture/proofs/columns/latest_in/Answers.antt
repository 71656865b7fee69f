use Rattle.std.proofs.Common.{◌≡◌, ◌+◌, ◌-◌, ◌++◌, ◌∷◌, [], ℕ, List, sym, ap, ◌∙◌, arith}
use Rattle.view_parts.specs.Each.{each_below}
use Rattle.view_parts.proofs.Each.{each_more}
use Rattle.view_picture.specs.Columns.{column}
use Rattle.view_picture.specs.Shown.{last_shown}
use Rattle.view_picture.proofs.Shown.{last_none}
use Rattle.view_picture.proofs.Latest.{shown_here, not_here}
use Rattle.view_picture.proofs.columns.latest_in.Goals.{then-before-number_at, else-before-number_at}
use Rattle.view_picture.proofs.columns.latest_in.Goals as goal

pub loop-events-init : goal.loop-events-init
loop-events-init c = record { latest = c.new-latest.ensures; last = sym (last_none c.args.rows.now c.args.process) }

pub loop-events-preserved : goal.loop-events-preserved
loop-events-preserved c =
    let rows = c.args.rows.now in
    let p = c.args.process in
    let n = c.loop-events.events in
    let made : ℕ → List ℕ = λ k. last_shown rows p k ∷ [] in
    let before : c.number_at-before.result ≡ column rows p (n - 1) = c.number_at-before.ensures ∙ ap (column rows p) c.saturating_sub.ensures in
    let last : c.if-before-number_at.last ≡ last_shown rows p n = elim c.if-before-number_at.branch [
      | then-before-number_at w ↦ w.last-is ∙ sym (shown_here rows p n (omega (arith, w.if-before-number_at.true, before, c.number_at.ensures)))
      | else-before-number_at w ↦ w.last-is ∙ c.loop-events.invariant.last ∙ sym (not_here rows p n (omega (arith, w.if-before-number_at.false, before, c.number_at.ensures)))
    ] in
    let back : n ≡ n + 1 - 1 = omega arith in
    record {
      latest = c.in_ok-push.ensures.ok ∙ ap (λ (l : List ℕ). l ++ c.if-before-number_at.last ∷ []) c.loop-events.invariant.latest ∙ ap (λ (v : ℕ). each_below n made ++ v ∷ []) last ∙ sym (each_more made n);
      last = last ∙ ap (last_shown rows p) back;
    }
