use Rattle.std.proofs.Common.{arith, ◌≡◌, ◌+◌, ◌⊎◌, inl, inr, ℕ, Bool, true, false, drop, ◌∙◌}
use Rattle.std.specs.Prelude.{if◌then◌else◌}
use Rattle.raise_machine.specs.declared.step.Step.TheVariants.{Look}
use Rattle.raise_machine.specs.Machine.{allowed_count}
use Rattle.raise_machine.proofs.Running.{words_at-next, allowed_count-next}
use Rattle.raise_machine.proofs.machine.Machine.run.Goals as goal
use Rattle.raise_machine.proofs.machine.Machine.run.Goals.{then-step, else-step}

-- one more step counts where it was done
counted : (was_done : Bool) (done done_now rest total : ℕ) → done + ((if was_done then 1 else 0) + rest) ≡ total → ((was_done ≡ true) × (done_now ≡ done + 1)) ⊎ ((was_done ≡ false) × (done_now ≡ done)) → done_now + rest ≡ total
counted true done done_now rest total is (inl h) = omega (arith, h.1)
counted true done done_now rest total is (inr h) = absurd (cc (h.0))
counted false done done_now rest total is (inl h) = absurd (cc (h.0))
counted false done done_now rest total is (inr h) = omega (arith, h.1)

pub loop-step-preserved : goal.loop-step-preserved
loop-step-preserved c =
    let system = c.args.self.now.system in
    let steps = c.args.steps.now in
    let i = c.loop-step.step-index in
    let next = words_at-next system c.args.self.now.words steps i (Look 0 0) c.loop-step-test.true in
    let count = allowed_count-next system c.loop-step.self.words steps i (Look 0 0) c.loop-step-test.true in
    let before : c.loop-step.done + ((if c.step.result then 1 else 0) + allowed_count system c.step.new.self.words (drop (i + 1) steps)) ≡ allowed_count system c.args.self.now.words steps = cc (count, c.loop-step.invariant.count) in
    record {
      system = c.step.ensures.system ∙ c.loop-step.invariant.system;
      words = cc next;
      count = counted c.step.result _ _ _ _ before (elim c.if-step.branch [ then-step w ↦ inl (w.if-step.true, w.done-is) | else-step w ↦ inr (w.if-step.false, w.done-is) ]);
      few = elim c.if-step.branch [ then-step w ↦ omega (arith, w.done-is) | else-step w ↦ omega (arith, w.done-is) ];
    }
