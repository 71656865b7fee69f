use Rattle.std.proofs.Common.{ℕ, ◌∙◌, ◌&&◌, sym, arith, ap, get_or}
use Rattle.std.specs.Prelude.{List, nat_le}
use Rattle.std.proofs.lemmas.Bool.{and_from, and_left, and_right, le-leb, lt-leb}
use Rattle.run_model.specs.Cut.{count}
use Rattle.causal_order.proofs.Growing.{count-lengths}
use Rattle.vector_clock.specs.Faults.{named_clock}
use Rattle.vector_clock.specs.Sound.{newly_names}
use Rattle.vector_clock.proofs.Below.{none_yet, none_step, some_from}
use Rattle.vector_clock.proofs.NewNames.{newly_by, loop_at}
use Rattle.vector_clock.proofs.joined.Joined.is_newly_loop.Goals as goal
use Rattle.vector_clock.proofs.joined.Joined.is_newly_loop.Goals.{else-newly_names-via-then-newly_names+else-clock-event, else-newly_names-via-else-newly_names}

pub loop-other-init : goal.loop-other-init
loop-other-init c = none_yet _

pub clock-requires-clause-last : goal.clock-requires-clause-last
clock-requires-clause-last c =
    omega (arith, ap (λ (v : List ℕ). get_or v c.loop-other.other 0) c.as_slice-clock.ensures, c.requires.named c.loop-other.other, count-lengths c.args.self.now c.loop-other.other)

pub returns-then-clock-event : goal.returns-then-clock-event
returns-then-clock-event c =
    sym (some_from (λ (k : ℕ). newly_names c.args.self.now c.args.place c.args.event.now k && nat_le c.args.place (count (named_clock c.args.self.now c.args.event.now k) c.args.event.now.process)) _ c.loop-other.other
    (omega (arith, c.loop-other-test.true, c.procs-other-end.ensures, c.requires.width))
    (and_from _ _ (sym (newly_by c.args.self.now c.args.place c.args.event.now c.loop-other.other _ c.newly_names.result c.newly_names.ensures (c.clock_before-before.ensures c.loop-other.other)) ∙ c.if-newly_names.true)
    (le-leb _ _ (omega (arith, c.if-clock-event.true, loop_at c.args.self.now c.args.event.now c.loop-other.other c.args.event.now.process c.clock.result.now c.as_slice-clock.result.now c.clock.ensures.clock c.as_slice-clock.ensures)))))

pub loop-other-preserved : goal.loop-other-preserved
loop-other-preserved c =
    none_step (λ (k : ℕ). newly_names c.args.self.now c.args.place c.args.event.now k && nat_le c.args.place (count (named_clock c.args.self.now c.args.event.now k) c.args.event.now.process)) c.loop-other.other c.loop-other.invariant
    (elim c.else-newly_names.branch [
      | else-newly_names-via-then-newly_names+else-clock-event w ↦
          and_right _ _ (lt-leb c.args.place (count (named_clock c.args.self.now c.args.event.now c.loop-other.other) c.args.event.now.process) (omega (arith, w.if-clock-event.false, loop_at c.args.self.now c.args.event.now c.loop-other.other c.args.event.now.process w.clock.result.now c.as_slice-clock.result.now w.clock.ensures.clock c.as_slice-clock.ensures)))
      | else-newly_names-via-else-newly_names w ↦ and_left _ _ (sym (newly_by c.args.self.now c.args.place c.args.event.now c.loop-other.other _ c.newly_names.result c.newly_names.ensures (c.clock_before-before.ensures c.loop-other.other)) ∙ w.if-newly_names.false)
    ])
