use Rattle.std.specs.Vec.Iter.{into_iter_items}
use Rattle.std.proofs.Common.{◌∙◌, subst, sym}
use Rattle.asked_log.proofs.Observed.{Through, begins, fits, goes_on, stops}
use Rattle.asked_log.proofs.observing.observe_all.Goals as goal

pub loop-batch-init : goal.loop-batch-init
loop-batch-init g c =
    subst (Through (λ h. (goal.Watch-dyn g (h.watch.vtable, h.watch.value)).answers h.watch.value) c.args.batches c.args.observation c.args.observation) (sym (c.into_iter-rest.ensures.rest ∙ c.into_vec.ensures))
    (begins (λ h. (goal.Watch-dyn g (h.watch.vtable, h.watch.value)).answers h.watch.value) c.args.batches c.args.observation c.requires.opened)

pub observe-requires : goal.observe-requires
observe-requires g c = record {
  batch = λ unspent.
      fits (λ h. (goal.Watch-dyn g (h.watch.vtable, h.watch.value)).answers h.watch.value) c.args.batches c.args.observation c.requires.can c.loop-batch.observed c.in-Some.batch (into_iter_items c.next.new.self)
      (subst (Through (λ h. (goal.Watch-dyn g (h.watch.vtable, h.watch.value)).answers h.watch.value) c.args.batches c.args.observation c.loop-batch.observed) c.in-Some.ensures.items c.loop-batch.invariant);
}

pub loop-batch-preserved : goal.loop-batch-preserved
loop-batch-preserved g c =
    goes_on (λ h. (goal.Watch-dyn g (h.watch.vtable, h.watch.value)).answers h.watch.value) c.args.batches c.args.observation c.requires.can c.loop-batch.observed c.in-Some.batch (into_iter_items c.next.new.self)
    (subst (Through (λ h. (goal.Watch-dyn g (h.watch.vtable, h.watch.value)).answers h.watch.value) c.args.batches c.args.observation c.loop-batch.observed) c.in-Some.ensures.items c.loop-batch.invariant)
    c.observe.new.self c.in-Ok.ensures.ok

pub returns-in-Err-clause-fault : goal.returns-in-Err-clause-fault
returns-in-Err-clause-fault g c =
    stops (λ h. (goal.Watch-dyn g (h.watch.vtable, h.watch.value)).answers h.watch.value) c.args.batches c.args.observation c.requires.can c.loop-batch.observed c.in-Some.batch (into_iter_items c.next.new.self)
    (subst (Through (λ h. (goal.Watch-dyn g (h.watch.vtable, h.watch.value)).answers h.watch.value) c.args.batches c.args.observation c.loop-batch.observed) c.in-Some.ensures.items c.loop-batch.invariant)
    c.loop-batch.observed.watches c.observe.new.self.watches c.observe.new.self.growing c.in-Err.stop c.in-Err.ensures.fault
