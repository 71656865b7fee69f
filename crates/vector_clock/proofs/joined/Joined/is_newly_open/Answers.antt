use Rattle.std.proofs.Common.{ℕ, ◌∙◌, ◌&&◌, sym, arith, ap, get_or}
use Rattle.std.specs.Prelude.{List}
use Rattle.std.proofs.lemmas.Bool.{and_from, and_left, and_right}
use Rattle.causal_order.proofs.Growing.{count-lengths}
use Rattle.vector_clock.specs.Events.{is_beyond}
use Rattle.vector_clock.specs.Faults.{named_clock}
use Rattle.vector_clock.specs.Sound.{newly_names}
use Rattle.vector_clock.proofs.Below.{none_yet, none_step, some_from}
use Rattle.vector_clock.proofs.NewNames.{newly_by, open_test}
use Rattle.vector_clock.proofs.joined.Joined.is_newly_open.Goals as goal
use Rattle.vector_clock.proofs.joined.Joined.is_newly_open.Goals.{else-newly_names-via-then-newly_names+else-is_beyond, else-newly_names-via-else-newly_names}

pub loop-other-init : goal.loop-other-init
loop-other-init c = none_yet _

pub clock-requires-clause-last : goal.clock-requires-clause-last
clock-requires-clause-last c =
    omega (arith, ap (λ (v : List ℕ). get_or v c.loop-other.other 0) c.as_slice-clock.ensures, c.requires.named c.loop-other.other, count-lengths c.args.self.now c.loop-other.other)

pub returns-then-is_beyond : goal.returns-then-is_beyond
returns-then-is_beyond c =
    sym (some_from (λ (k : ℕ). newly_names c.args.self.now c.args.place c.args.event.now k && is_beyond (named_clock c.args.self.now c.args.event.now k) c.args.event.now.clock) _ c.loop-other.other
    (omega (arith, c.loop-other-test.true, c.procs-other-end.ensures, c.requires.width))
    (and_from _ _ (sym (newly_by c.args.self.now c.args.place c.args.event.now c.loop-other.other _ c.newly_names.result c.newly_names.ensures (c.clock_before-before.ensures c.loop-other.other)) ∙ c.if-newly_names.true)
    (open_test c.args.self.now c.args.event.now c.loop-other.other _ _ _ _ c.clock.ensures.clock c.as_slice-clock.ensures c.is_beyond.ensures c.if-is_beyond.true)))

pub loop-other-preserved : goal.loop-other-preserved
loop-other-preserved c =
    none_step (λ (k : ℕ). newly_names c.args.self.now c.args.place c.args.event.now k && is_beyond (named_clock c.args.self.now c.args.event.now k) c.args.event.now.clock) c.loop-other.other c.loop-other.invariant
    (elim c.else-newly_names.branch [
      | else-newly_names-via-then-newly_names+else-is_beyond w ↦ and_right _ _ (open_test c.args.self.now c.args.event.now c.loop-other.other _ _ _ _ w.clock.ensures.clock c.as_slice-clock.ensures w.is_beyond.ensures w.if-is_beyond.false)
      | else-newly_names-via-else-newly_names w ↦ and_left _ _ (sym (newly_by c.args.self.now c.args.place c.args.event.now c.loop-other.other _ c.newly_names.result c.newly_names.ensures (c.clock_before-before.ensures c.loop-other.other)) ∙ w.if-newly_names.false)
    ])
