use Rattle.std.proofs.Common.{◌≡◌, ℕ, Bool, length, sym, ap, ◌∙◌, arith}
use Rattle.run_model.proofs.Counts.{length-lengths}
use Rattle.view_picture.specs.Ties.{any_below, is_before, last_known}
use Rattle.view_picture.proofs.Latest.{any_none, any_more, any_found}
use Rattle.view_picture.proofs.ties.is_between.Goals as goal

pub last_known-requires-clause-process : goal.last_known-requires-clause-process
last_known-requires-clause-process c = omega (arith, c.requires.there.process, length-lengths c.args.order.now)

pub returns-then-is_before : goal.returns-then-is_before
returns-then-is_before c =
    let o = c.args.order.now in
    let passes : ℕ → Bool = λ p. is_before o c.args.first (last_known o c.args.columns.now c.args.second p) in
    sym (any_found passes (length o) c.args.second.process (omega (arith, c.requires.there.process, length-lengths o))
    (ap (is_before o c.args.first) (sym c.last_known.ensures.last) ∙ sym c.is_before.ensures ∙ c.if-is_before.true))

pub loop-process-init : goal.loop-process-init
loop-process-init c = any_none (λ p. is_before c.args.order.now c.args.first (last_known c.args.order.now c.args.columns.now c.args.second p))

pub last_known-requires-in-loop-process-clause-process : goal.last_known-requires-in-loop-process-clause-process
last_known-requires-in-loop-process-clause-process c = omega (arith, c.loop-process-test.true, c.procs-process-end.ensures.count, ap length c.shape.ensures.lens, length-lengths c.args.order.now)

pub returns-then-is_before-2 : goal.returns-then-is_before-2
returns-then-is_before-2 c =
    let o = c.args.order.now in
    let passes : ℕ → Bool = λ p. is_before o c.args.first (last_known o c.args.columns.now c.args.second p) in
    sym (any_found passes (length o) c.loop-process.process (omega (arith, c.loop-process-test.true, c.procs-process-end.ensures.count, ap length c.shape.ensures.lens, length-lengths o))
    (ap (is_before o c.args.first) (sym c.last_known-in-loop-process.ensures.last) ∙ sym c.is_before-in-loop-process.ensures ∙ c.if-is_before-2.true))

pub loop-process-preserved : goal.loop-process-preserved
loop-process-preserved c =
    let o = c.args.order.now in
    let passes : ℕ → Bool = λ p. is_before o c.args.first (last_known o c.args.columns.now c.args.second p) in
    any_more passes c.loop-process.process c.loop-process.invariant (ap (is_before o c.args.first) (sym c.last_known-in-loop-process.ensures.last) ∙ sym c.is_before-in-loop-process.ensures ∙ c.if-is_before-2.false)

pub returns : goal.returns
returns c =
    let o = c.args.order.now in
    let passes : ℕ → Bool = λ p. is_before o c.args.first (last_known o c.args.columns.now c.args.second p) in
    let end : c.loop-process.process ≡ length o = omega (arith, c.loop-process-test.false, c.loop-process.auto.process-end, c.procs-process-end.ensures.count, ap length c.shape.ensures.lens, length-lengths o) in
    sym (ap (any_below passes) (sym end) ∙ c.loop-process.invariant)
