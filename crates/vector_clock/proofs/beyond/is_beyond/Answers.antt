use Rattle.std.proofs.Common.{ℕ, ◌∙◌, sym}
use Rattle.std.specs.Prelude.{nat_lt}
use Rattle.std.proofs.lemmas.Bool.{lt-ltb, le-ltb}
use Rattle.run_model.specs.Cut.{count}
use Rattle.vector_clock.proofs.Below.{none_yet, some_step, same_step}
use Rattle.vector_clock.proofs.beyond.is_beyond.Goals as goal
use Rattle.vector_clock.proofs.beyond.is_beyond.Goals.{then-second-j, else-second-j}

pub loop-j-init : goal.loop-j-init
loop-j-init c = sym (none_yet _)

pub loop-j-preserved : goal.loop-j-preserved
loop-j-preserved c = elim c.if-second-j.branch [
  | then-second-j w ↦ w.beyond-is ∙ sym (some_step (λ (k : ℕ). nat_lt (count c.args.second.now k) (count c.args.first.now k)) c.loop-j.j (lt-ltb _ _ w.if-second-j.true))
  | else-second-j w ↦ w.beyond-is ∙ c.loop-j.invariant ∙ sym (same_step (λ (k : ℕ). nat_lt (count c.args.second.now k) (count c.args.first.now k)) c.loop-j.j (le-ltb _ _ w.if-second-j.false))
]
