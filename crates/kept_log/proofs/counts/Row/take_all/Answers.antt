use Rattle.std.proofs.Common.{take, sym, ap, arith}
use Rattle.kept_log.specs.declared.counts.Row.{Row}
use Rattle.kept_log.proofs.Rows.{row_more, kept_within, row_none}
use Rattle.kept_log.proofs.Steps.{length_taken}
use Rattle.kept_log.proofs.counts.Row.take_all.Goals as goal

pub loop-event-init : goal.loop-event-init
loop-event-init c = sym (row_none c.args.numbers.now c.args.self.now)

pub loop-event-preserved : goal.loop-event-preserved
loop-event-preserved c =
    let e = row_more c.args.numbers.now c.args.self.now c.args.batch.now c.loop-event.event-index c.event-item.result c.loop-event-test.true c.event-item.is in
    cc (c.in_ok-take.ensures)

pub take-requires : goal.take-requires
take-requires c =
    let i = c.loop-event.event-index in
    omega (arith, kept_within c.args.numbers.now c.args.self.now (take i c.args.batch.now), length_taken i c.args.batch.now, ap (λ (r : Row). r.kept) c.loop-event.invariant)
