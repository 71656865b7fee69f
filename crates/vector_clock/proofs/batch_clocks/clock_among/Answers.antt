use Rattle.std.proofs.Common.{◌≡◌, ◌-◌, ◌∙◌, [], length, take, get_or, ap, sym, arith}
use Rattle.std.specs.Prelude.{ℕ}
use Rattle.vector_clock.specs.inside.BatchPlaces.{own_clocks}
use Rattle.vector_clock.proofs.Placing.{one_seen, none_seen, seen_clock}
use Rattle.vector_clock.proofs.batch_clocks.clock_among.Goals as goal
use Rattle.vector_clock.proofs.batch_clocks.clock_among.Goals.{then-event-process+else-left-eq0, else-event-process}

pub returns-then-left-eq0 : goal.returns-then-left-eq0
returns-then-left-eq0 c =
    let place : length (own_clocks (take c.loop-event.event-index c.args.batch.now) c.args.process) ≡ c.args.position - 1 = omega (arith, c.loop-event.invariant.seen, c.loop-event.invariant.left, c.if-left-eq0.true) in
    c.as_slice.ensures ∙ sym (seen_clock c.args.batch.now c.loop-event.event-index c.event-item.result c.args.process c.loop-event-test.true c.event-item.is c.if-event-process.true)
    ∙ ap (λ (k : ℕ). get_or (own_clocks c.args.batch.now c.args.process) k []) place

pub loop-event-preserved : goal.loop-event-preserved
loop-event-preserved c = elim c.if-event-process.branch [
  | then-event-process+else-left-eq0 w ↦
      let one = one_seen c.args.batch.now c.loop-event.event-index c.event-item.result c.args.process c.loop-event-test.true c.event-item.is w.if-event-process.true in
      record { seen = omega (arith, w.left-is, c.loop-event.invariant.seen, c.loop-event.invariant.left, one); left = omega (arith, w.left-is, w.if-left-eq0.false, c.loop-event.invariant.left) }
  | else-event-process w ↦
      let none = none_seen c.args.batch.now c.loop-event.event-index c.event-item.result c.args.process c.loop-event-test.true c.event-item.is w.if-event-process.false in
      record { seen = omega (arith, w.left-is, c.loop-event.invariant.seen, none); left = omega (arith, w.left-is, c.loop-event.invariant.left) }
]
