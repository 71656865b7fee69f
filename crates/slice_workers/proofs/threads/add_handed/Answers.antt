use Rattle.std.proofs.Common.{inl, inr, ap, ◌∙◌, get_or, false}
use Rattle.slice_workers.proofs.threads.add_handed.Goals as goal

pub loop-process-init : goal.loop-process-init
loop-process-init c = λ p is. inl is

pub loop-process-preserved : goal.loop-process-preserved
loop-process-preserved c =
    λ p is. elim (c.mark_if.ensures p is) [
      | inl before ↦ c.loop-process.invariant p before
      | inr here ↦ inr (ap (λ q. get_or c.args.more.now q false) here.0 ∙ here.1)
    ]
