use Rattle.std.specs.Vec.Iter.{into_iter_items}
use Rattle.std.proofs.Common.{◌≡◌, [], rules, sym, ◌∙◌}
use Rattle.std.proofs.lemmas.List.{nil_from_length}
use Rattle.log_answers.proofs.Items.{begins, may_take, goes_on, stops, all_done}
use Rattle.log_answers.proofs.checking.Checking.take_all.Goals as goal

pub loop-item-init : goal.loop-item-init
loop-item-init g c =
    begins (λ h. (goal.Watch-dyn g (h.watch.vtable, h.watch.value)).answers h.watch.value) (g.O.Sink.held c.args.out.now) (g.O.Sink.faults c.args.out.now) c.args.self.now.each_batch
    c.args.self.now.check c.args.items _ (search rules)

pub take-requires-after_bounds : goal.take-requires-after_bounds
take-requires-after_bounds g c κs lives =
    may_take (λ h. (goal.Watch-dyn g (h.watch.vtable, h.watch.value)).answers h.watch.value) (g.O.Sink.held c.args.out.now) (g.O.Sink.faults c.args.out.now) c.args.self.now.each_batch
    c.args.self.now.check c.args.items (g.O.Sink.held c.loop-item.out) (g.O.Sink.faults c.loop-item.out)
    c.loop-item.self.each_batch c.loop-item.self.check c.in-Some.item (into_iter_items c.next.new.self)
    (into_iter_items c.loop-item.rest) c.in-Some.ensures.items c.loop-item.invariant c.requires

pub loop-item-preserved : goal.loop-item-preserved
loop-item-preserved g c =
    goes_on (λ h. (goal.Watch-dyn g (h.watch.vtable, h.watch.value)).answers h.watch.value) (g.O.Sink.held c.args.out.now) (g.O.Sink.faults c.args.out.now) c.args.self.now.each_batch
    c.args.self.now.check c.args.items (g.O.Sink.held c.loop-item.out) (g.O.Sink.faults c.loop-item.out)
    c.loop-item.self.each_batch c.loop-item.self.check c.in-Some.item (into_iter_items c.next.new.self)
    (into_iter_items c.loop-item.rest) c.in-Some.ensures.items c.loop-item.invariant (g.O.Sink.held c.take.new.out)
    (g.O.Sink.faults c.take.new.out) c.take.new.self.each_batch c.take.new.self.check c.take.ensures.each
    c.in_default-take.field-0 c.in_default-take.ensures.items

pub returns-in-Err-clause-items : goal.returns-in-Err-clause-items
returns-in-Err-clause-items g c aim j text stands follows =
    stops (λ h. (goal.Watch-dyn g (h.watch.vtable, h.watch.value)).answers h.watch.value) (g.O.Sink.held c.args.out.now) (g.O.Sink.faults c.args.out.now) c.args.self.now.each_batch
    c.args.self.now.check c.args.items (g.O.Sink.held c.loop-item.out) (g.O.Sink.faults c.loop-item.out)
    c.loop-item.self.each_batch c.loop-item.self.check c.in-Some.item (into_iter_items c.next.new.self)
    (into_iter_items c.loop-item.rest) c.in-Some.ensures.items c.loop-item.invariant (g.O.Sink.held c.take.new.out)
    (g.O.Sink.faults c.take.new.out) c.take.new.self.each_batch c.take.new.self.check c.take.ensures.each c.in-Err.stop
    c.in-Err.ensures.items aim j text stands follows

pub returns-clause-items : goal.returns-clause-items
returns-clause-items g c aim j text stands follows =
    let none : into_iter_items c.loop-item.rest ≡ [] =
    nil_from_length (into_iter_items c.loop-item.rest) (sym c.loop-item.rest.rest.ok.0 ∙ c.in_default.ensures.cases.0) in
    all_done (λ h. (goal.Watch-dyn g (h.watch.vtable, h.watch.value)).answers h.watch.value) (g.O.Sink.held c.args.out.now) (g.O.Sink.faults c.args.out.now) c.args.self.now.each_batch
    c.args.self.now.check c.args.items _ (g.O.Sink.held c.loop-item.out) (g.O.Sink.faults c.loop-item.out)
    c.loop-item.self.each_batch c.loop-item.self.check (into_iter_items c.loop-item.rest) none c.loop-item.invariant aim j
    text stands follows
