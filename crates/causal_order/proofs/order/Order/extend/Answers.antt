use Rattle.std.proofs.Common.{◌+◌, ◌≤◌, length, sum, arith, ap, ◌∙◌, sym, subst}
use Rattle.run_model.specs.Cut.{Clocks, lengths}
use Rattle.run_model.specs.Consistent.{IsOrder}
use Rattle.pota_base.specs.Limits.{most_events}
use Rattle.causal_order.specs.Growth.{with_clocks}
use Rattle.causal_order.proofs.Growing.{length-lengths, grown_fits}
use Rattle.causal_order.proofs.Orders.{grown_few, grown_ordered}
use Rattle.causal_order.proofs.order.Order.extend.Goals as goal

pub add_batch-requires-clause-procs : goal.add_batch-requires-clause-procs
add_batch-requires-clause-procs c = c.procs.ensures.count ∙ ap length c.self.invariant.lens ∙ length-lengths c.self.inside.table

pub measure-requires-clause-count : goal.measure-requires-clause-count
measure-requires-clause-count c = omega (arith, ap length c.self.invariant.lens, length-lengths c.self.inside.table, c.add_batch.ensures.grown.count)

pub measure-requires-clause-fits : goal.measure-requires-clause-fits
measure-requires-clause-fits c = grown_fits _ c.self.inside.table _ c.add_batch.ensures.grown c.self.invariant.lens

pub measure-requires-clause-few : goal.measure-requires-clause-few
measure-requires-clause-few c =
    grown_few c.self.inside.table c.args.events.now c.add_batch.new.table c.in-Ok.ensures.ok (subst (λ (o : Clocks). sum (lengths o) + length c.args.events.now ≤ most_events) (sym c.self.view_is) c.requires.few)

pub invariant_of-self : goal.invariant_of-self
invariant_of-self c =
    let made = c.in-Ok.ensures.ok in
    let few = grown_few c.self.inside.table c.args.events.now c.add_batch.new.table made (subst (λ (o : Clocks). sum (lengths o) + length c.args.events.now ≤ most_events) (sym c.self.view_is) c.requires.few) in
    grown_ordered c.self.inside.table c.add_batch.new.table c.self.inside.shape c.measure.new.shape c.self.invariant c.add_batch.ensures.grown.count few c.measure.ensures
    (subst IsOrder (sym (made ∙ ap (λ (o : Clocks). with_clocks o c.args.events.now) c.self.view_is)) c.requires.order)

pub cut_back-requires-clause-count : goal.cut_back-requires-clause-count
cut_back-requires-clause-count c = omega (arith, ap length c.self.invariant.lens, length-lengths c.self.inside.table, c.add_batch.ensures.grown.count)

pub cut_back-requires-clause-fits : goal.cut_back-requires-clause-fits
cut_back-requires-clause-fits c = grown_fits _ c.self.inside.table _ c.add_batch.ensures.grown c.self.invariant.lens
