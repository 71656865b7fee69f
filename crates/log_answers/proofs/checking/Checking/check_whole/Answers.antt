use Rattle.log_answers.proofs.OneBatch.{whole_stops, some_whole, whole_reported}
use Rattle.log_answers.proofs.checking.Checking.check_whole.Goals as goal

pub returns-in-Err : goal.returns-in-Err
returns-in-Err g c aim is =
    whole_stops aim c.args.log (g.O.Sink.held c.args.out.now) (g.O.Sink.faults c.args.out.now) c.in-Err.stop (c.in-Err.ensures aim is)

pub report-requires-after_bounds : goal.report-requires-after_bounds
report-requires-after_bounds g c κs lives =
    let aim = c.requires.check.0 in
    let s = some_whole (λ h. (goal.Watch-dyn g (h.watch.vtable, h.watch.value)).answers h.watch.value) aim c.args.log c.requires.batch c.take_whole.new.self.check (c.in_default.ensures aim c.requires.check.1) in
    (aim, s.0, s.1, s.2, s.3)

pub returns : goal.returns
returns g c aim is =
    whole_reported (λ h. (goal.Watch-dyn g (h.watch.vtable, h.watch.value)).answers h.watch.value) aim c.args.log c.requires.batch c.take_whole.new.self.check (c.in_default.ensures aim is)
    (g.O.Sink.held c.args.out.now) (g.O.Sink.held c.report.new.out) (g.O.Sink.faults c.args.out.now) (g.O.Sink.faults c.report.new.out) c.report.result (c.report.ensures.reports aim)
