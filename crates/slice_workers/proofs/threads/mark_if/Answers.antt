use Rattle.std.proofs.Common.{inl, inr, ◌∙◌, sym, true, false}
use Rattle.pull_system.proofs.Climbing.{set_case}
use Rattle.slice_workers.proofs.threads.mark_if.Goals as goal

pub returns-then-is_marked : goal.returns-then-is_marked
returns-then-is_marked c =
    λ p is. elim (set_case c.args.handed.now c.args.process true p false) [
      | inl e ↦ inl (sym e ∙ is)
      | inr e ↦ inr (e.0, c.if-is_marked.true)
    ]
