use Rattle.log_answers.proofs.Calm.{calm_so}
use Rattle.batch_answers.proofs.Endings.{checks, checks_stop, some_closed}
use Rattle.batch_answers.proofs.checking.check_all.Goals as goal

pub returns-in-Err-clause-checks : goal.returns-in-Err-clause-checks
returns-in-Err-clause-checks g c aim is =
    checks_stop (λ h. (goal.Watch-dyn g (h.watch.vtable, h.watch.value)).answers h.watch.value) aim c.args.checking.now.each_batch c.read_log.new.checking.check (g.S.Source.left c.args.log.now)
    (g.S.Source.left c.read_log.new.log) (g.O.Sink.held c.args.out.now) (g.O.Sink.held c.read_log.new.out)
    (g.O.Sink.held c.read_log.new.out) (g.S.Source.faults c.args.log.now) (g.S.Source.faults c.read_log.new.log)
    (g.O.Sink.faults c.args.out.now) (g.O.Sink.faults c.read_log.new.out) (g.O.Sink.faults c.read_log.new.out)
    c.in-Err.stop (c.in-Err.ensures.log aim is)

pub report-requires-after_bounds : goal.report-requires-after_bounds
report-requires-after_bounds g c κs lives =
    let aim = c.requires.0 in
    let s = some_closed (λ h. (goal.Watch-dyn g (h.watch.vtable, h.watch.value)).answers h.watch.value) aim c.args.checking.now.each_batch c.read_log.new.checking.check _ (g.S.Source.left c.args.log.now)
    (g.S.Source.left c.read_log.new.log) (g.O.Sink.held c.args.out.now) (g.O.Sink.held c.read_log.new.out)
    (g.S.Source.faults c.args.log.now) (g.S.Source.faults c.read_log.new.log) (g.O.Sink.faults c.args.out.now)
    (g.O.Sink.faults c.read_log.new.out) (c.in_default.ensures.log aim c.requires.1) in
    (aim, s.0, s.1, s.2, s.3)

pub returns-clause-checks : goal.returns-clause-checks
returns-clause-checks g c aim is =
    checks (λ h. (goal.Watch-dyn g (h.watch.vtable, h.watch.value)).answers h.watch.value) aim c.args.checking.now.each_batch c.read_log.new.checking.check (g.S.Source.left c.args.log.now)
    (g.S.Source.left c.read_log.new.log) (g.O.Sink.held c.args.out.now) (g.O.Sink.held c.read_log.new.out)
    (g.O.Sink.held c.report.new.out) (g.S.Source.faults c.args.log.now) (g.S.Source.faults c.read_log.new.log)
    (g.O.Sink.faults c.args.out.now) (g.O.Sink.faults c.read_log.new.out) (g.O.Sink.faults c.report.new.out)
    _ c.report.result (c.in_default.ensures.log aim is) (c.report.ensures.reports aim)

pub returns-in-Err-clause-calm : goal.returns-in-Err-clause-calm
returns-in-Err-clause-calm g c = c.in-Err.ensures.calm

pub returns-clause-calm : goal.returns-clause-calm
returns-clause-calm g c = calm_so (g.S.Source.faults c.args.log.now) (g.S.Source.faults c.read_log.new.log) c.report.result c.in_default.ensures.calm
