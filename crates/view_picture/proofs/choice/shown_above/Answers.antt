use Rattle.std.proofs.Common.{◌≡◌, ◌-◌, ◌<◌, ℕ, Bool, sym, ap, ◌∙◌, arith}
use Rattle.view_parts.specs.Parts.{place}
use Rattle.view_picture.specs.Choice.{keeps, shown_above}
use Rattle.view_picture.proofs.Above.{kept_back, passed_back, none_left, at_start}
use Rattle.view_picture.proofs.choice.shown_above.Goals.{then-keeps, else-keeps}
use Rattle.view_picture.proofs.choice.shown_above.Goals as goal

pub loop-left-preserved : goal.loop-left-preserved
loop-left-preserved c =
    let kept : ℕ → Bool = λ n. keeps c.args.states.now c.args.tokens.now c.args.all (place c.args.process n) in
    let left = c.loop-left.left in
    let position = c.loop-left.position in
    let some : 0 < left = omega (arith, c.loop-left-test.true) in
    let there : 0 < position = omega (arith, c.if-position-gt0.true) in (
      omega (arith, c.loop-left.invariant.0),
      elim c.if-keeps.branch [
        | then-keeps w ↦ c.loop-left.invariant.1 ∙ kept_back kept left position some there (sym c.keeps.ensures ∙ w.if-keeps.true) ∙ ap (λ (l : ℕ). shown_above kept l (position - 1)) (sym w.left-is)
        | else-keeps w ↦ c.loop-left.invariant.1 ∙ passed_back kept left position some there (sym c.keeps.ensures ∙ w.if-keeps.false) ∙ ap (λ (l : ℕ). shown_above kept l (position - 1)) (sym w.left-is)
      ],
    )

pub returns-else-position-gt0 : goal.returns-else-position-gt0
returns-else-position-gt0 c =
    let kept : ℕ → Bool = λ n. keeps c.args.states.now c.args.tokens.now c.args.all (place c.args.process n) in
    let none : c.loop-left.position ≡ 0 = omega (arith, c.if-position-gt0.false) in
    sym (c.loop-left.invariant.1 ∙ ap (shown_above kept c.loop-left.left) none ∙ at_start kept c.loop-left.left ∙ sym none)

pub returns-after-loop-left : goal.returns-after-loop-left
returns-after-loop-left c =
    let kept : ℕ → Bool = λ n. keeps c.args.states.now c.args.tokens.now c.args.all (place c.args.process n) in
    let none : c.loop-left.left ≡ 0 = omega (arith, c.loop-left-test.false) in
    sym (c.loop-left.invariant.1 ∙ ap (λ (l : ℕ). shown_above kept l c.loop-left.position) none ∙ none_left kept c.loop-left.position)
