use Rattle.std.proofs.Common.{length, ap, subst, sym}
use Rattle.event_log.specs.declared.log.Log.{Log}
use Rattle.event_log.specs.FittingItems.{FitFirst}
use Rattle.event_log.specs.LogText.{log_items}
use Rattle.log_answers.specs.Whole.{TakingStops}
use Rattle.log_rules.specs.WholeLogs.{all_of}
use Rattle.call_promise.specs.Run.{made_by}
use Rattle.bench_answers.proofs.Benching.{made_short, made_follows, made_rises, made_stops, as_made, made_closed, made_judgement, summed}
use Rattle.bench_answers.proofs.bench.bench_all.Goals as goal

pub returns-in_default : goal.returns-in_default
returns-in_default g c aim is benches =
    made_short (λ h. (goal.Watch-dyn g (h.watch.vtable, h.watch.value)).answers h.watch.value) aim c.args.sizes c.requires.sizes
    (g.O.Sink.held c.args.out.now) (g.O.Sink.faults c.args.out.now) c.without_memory.result c.without_memory.ensures

pub take_whole-requires-clause-batch : goal.take_whole-requires-clause-batch
take_whole-requires-clause-batch g c = ap (λ (l : Log). length l.batches) c.in-Ok.ensures.log

pub take_whole-requires-clause-fits : goal.take_whole-requires-clause-fits
take_whole-requires-clause-fits g c =
    subst (λ (l : Log). FitFirst (log_items l)) (sym c.in-Ok.ensures.log)
    (made_follows (λ h. (goal.Watch-dyn g (h.watch.vtable, h.watch.value)).answers h.watch.value) c.requires.check.0 c.args.sizes c.requires.sizes)

pub returns-in-Err : goal.returns-in-Err
returns-in-Err g c aim is benches =
    made_stops (λ h. (goal.Watch-dyn g (h.watch.vtable, h.watch.value)).answers h.watch.value) aim c.args.sizes c.requires.sizes (made_rises aim c.args.sizes c.requires.sizes) (g.O.Sink.held c.args.out.now) (g.O.Sink.faults c.args.out.now) c.in-Err.stop
    (subst (λ (l : Log). TakingStops c.in-Err.stop.cause c.in-Err.stop.batches aim l) c.in-Ok.ensures.log (c.in-Err.ensures aim is))

pub sum_up-requires-after_bounds : goal.sum_up-requires-after_bounds
sum_up-requires-after_bounds g c κs lives =
    let aim = c.requires.check.0 in
    let taken = as_made (λ h. (goal.Watch-dyn g (h.watch.vtable, h.watch.value)).answers h.watch.value) aim c.args.sizes c.requires.sizes c.in-Ok.log c.in-Ok.ensures.log c.take_whole.new.self.check (c.in_default-take_whole.ensures aim c.requires.check.1) in (
      aim,
      made_judgement (λ h. (goal.Watch-dyn g (h.watch.vtable, h.watch.value)).answers h.watch.value) aim c.args.sizes c.requires.sizes,
      all_of (made_by c.args.sizes),
      taken,
      made_closed (λ h. (goal.Watch-dyn g (h.watch.vtable, h.watch.value)).answers h.watch.value) aim c.args.sizes c.requires.sizes (made_rises aim c.args.sizes c.requires.sizes) c.take_whole.new.self.check taken,
    )

pub returns : goal.returns
returns g c aim is benches =
    let taken = as_made (λ h. (goal.Watch-dyn g (h.watch.vtable, h.watch.value)).answers h.watch.value) aim c.args.sizes c.requires.sizes c.in-Ok.log c.in-Ok.ensures.log c.take_whole.new.self.check (c.in_default-take_whole.ensures aim is) in
    summed (λ h. (goal.Watch-dyn g (h.watch.vtable, h.watch.value)).answers h.watch.value) aim c.args.sizes c.requires.sizes (made_rises aim c.args.sizes c.requires.sizes) (g.O.Sink.held c.args.out.now) (g.O.Sink.held c.sum_up.new.out) (g.O.Sink.faults c.args.out.now) (g.O.Sink.faults c.sum_up.new.out)
    c.take_whole.new.self.check taken c.sum_up.result
    (c.sum_up.ensures aim _ (all_of (made_by c.args.sizes)) taken
    (made_closed (λ h. (goal.Watch-dyn g (h.watch.vtable, h.watch.value)).answers h.watch.value) aim c.args.sizes c.requires.sizes (made_rises aim c.args.sizes c.requires.sizes) c.take_whole.new.self.check taken) benches)
