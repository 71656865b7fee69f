use Rattle.std.proofs.Common.{◌≡◌, ℕ, length, sym, ap, ◌∙◌, arith}
use Rattle.std.specs.Prelude.{max}
use Rattle.run_model.proofs.Counts.{length-lengths}
use Rattle.view_picture.specs.Columns.{column}
use Rattle.view_picture.specs.Ties.{known}
use Rattle.view_picture.specs.inside.Placing.{greatest_below}
use Rattle.view_picture.proofs.Latest.{greatest_none, greatest_more}
use Rattle.view_picture.proofs.columns.greatest_before.Goals as goal

pub loop-process-init : goal.loop-process-init
loop-process-init c = sym (greatest_none (λ p. column c.args.rows.now p (known c.args.order.now c.args.event p)))

pub loop-process-preserved : goal.loop-process-preserved
loop-process-preserved c =
    let made : ℕ → ℕ = λ p. column c.args.rows.now p (known c.args.order.now c.args.event p) in
    let p = c.loop-process.process in
    c.max-most.ensures ∙ ap (λ (m : ℕ). max m c.number_at.result) c.loop-process.invariant
    ∙ ap (λ (v : ℕ). max (greatest_below made p) v) (c.number_at.ensures ∙ ap (λ (k : ℕ). column c.args.rows.now p k) c.known.ensures.known) ∙ sym (greatest_more made p)

pub returns : goal.returns
returns c =
    let made : ℕ → ℕ = λ p. column c.args.rows.now p (known c.args.order.now c.args.event p) in
    let end : c.loop-process.process ≡ length c.args.order.now = omega (arith, c.loop-process-test.false, c.loop-process.auto.process-end, c.procs-process-end.ensures.count, ap length c.shape.ensures.lens, length-lengths c.args.order.now) in
    c.loop-process.invariant ∙ ap (greatest_below made) end
