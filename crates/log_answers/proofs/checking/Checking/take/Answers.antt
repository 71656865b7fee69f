use Rattle.std.proofs.Common.{◌≡◌, true, sym, ◌∙◌}
use Rattle.log_rules.specs.Due.{closed_of}
use Rattle.log_rules.specs.Judgement.{judge}
use Rattle.reported_log.specs.Aims.{rules_of}
use Rattle.log_answers.proofs.Items.{judge_stops, quiet, some_report, closed_written, closed_stops}
use Rattle.log_answers.proofs.checking.Checking.take.Goals as goal

pub returns-in-Err-clause-items : goal.returns-in-Err-clause-items
returns-in-Err-clause-items g c aim j text stands follows =
    judge_stops (λ h. (goal.Watch-dyn g (h.watch.vtable, h.watch.value)).answers h.watch.value) aim c.args.self.now.each_batch j c.args.item c.args.self.now.check c.judge.new.self.check text
    (g.O.Sink.held c.args.out.now) (g.O.Sink.faults c.args.out.now) stands c.in-Err.stop
    (c.in-Err.ensures.judged aim j stands.check_is follows)

pub report-requires-after_bounds : goal.report-requires-after_bounds
report-requires-after_bounds g c κs lives =
    let aim = c.requires.0 in
    let j = c.requires.1 in
    let stands = c.requires.3 in
    let each : c.args.self.now.each_batch ≡ true = sym c.judge.ensures.each ∙ c.if-not-self.false in
    let closed : c.in-Ok.closed ≡ true = c.if-not-closed.false in
    let s = some_report (λ h. (goal.Watch-dyn g (h.watch.vtable, h.watch.value)).answers h.watch.value) aim c.args.self.now.each_batch c.in-Ok.closed each closed j c.args.item c.args.self.now.check
    c.judge.new.self.check c.requires.2 (g.O.Sink.held c.args.out.now) (g.O.Sink.held c.args.out.now)
    (g.O.Sink.faults c.args.out.now) (g.O.Sink.faults c.args.out.now) stands
    (c.in-Ok.ensures.judged aim j stands.check_is c.requires.4) in
    (aim, s.0, s.1, s.2, s.3)

pub returns-then-not-closed-clause-items : goal.returns-then-not-closed-clause-items
returns-then-not-closed-clause-items g c aim j text stands follows =
    quiet (λ h. (goal.Watch-dyn g (h.watch.vtable, h.watch.value)).answers h.watch.value) aim c.args.self.now.each_batch j c.args.item c.args.self.now.check
    c.judge.new.self.check text (g.O.Sink.held c.args.out.now) (g.O.Sink.faults c.args.out.now) stands c.in-Ok.closed _
    (λ e. let f = c.if-not-closed.true in absurd cc) (c.in-Ok.ensures.judged aim j stands.check_is follows)

pub returns-then-not-self-clause-items : goal.returns-then-not-self-clause-items
returns-then-not-self-clause-items g c aim j text stands follows =
    quiet (λ h. (goal.Watch-dyn g (h.watch.vtable, h.watch.value)).answers h.watch.value) aim c.args.self.now.each_batch j c.args.item c.args.self.now.check
    c.judge.new.self.check text (g.O.Sink.held c.args.out.now) (g.O.Sink.faults c.args.out.now) stands c.in-Ok.closed _
    (λ e. sym c.judge.ensures.each ∙ c.if-not-self.true) (c.in-Ok.ensures.judged aim j stands.check_is follows)

pub returns-in-Ok-report-clause-items : goal.returns-in-Ok-report-clause-items
returns-in-Ok-report-clause-items g c aim j text stands follows =
    let each : c.args.self.now.each_batch ≡ true = sym c.judge.ensures.each ∙ c.if-not-self.false in
    let closed : c.in-Ok.closed ≡ true = c.if-not-closed.false in
    closed_written (λ h. (goal.Watch-dyn g (h.watch.vtable, h.watch.value)).answers h.watch.value) aim c.args.self.now.each_batch c.in-Ok.closed each closed j c.args.item c.args.self.now.check
    c.judge.new.self.check text (g.O.Sink.held c.args.out.now) (g.O.Sink.held c.report.new.out)
    (g.O.Sink.faults c.args.out.now) (g.O.Sink.faults c.report.new.out) stands
    (c.in-Ok.ensures.judged aim j stands.check_is follows) _ c.in-Ok-report.field-0 c.report.new.self.check
    (c.in-Ok-report.ensures.goes_on aim (judge (rules_of aim) j c.args.item) (c.in-Ok.ensures.judged aim j stands.check_is follows).is)
    (λ log is texts. c.in-Ok-report.ensures.reports aim (judge (rules_of aim) j c.args.item) log
    (c.in-Ok.ensures.judged aim j stands.check_is follows).is is (closed_of j) text texts)

pub returns-in-Err-report-clause-items : goal.returns-in-Err-report-clause-items
returns-in-Err-report-clause-items g c aim j text stands follows =
    let each : c.args.self.now.each_batch ≡ true = sym c.judge.ensures.each ∙ c.if-not-self.false in
    let closed : c.in-Ok.closed ≡ true = c.if-not-closed.false in
    closed_stops (λ h. (goal.Watch-dyn g (h.watch.vtable, h.watch.value)).answers h.watch.value) aim c.args.self.now.each_batch c.in-Ok.closed each closed j c.args.item c.args.self.now.check
    c.judge.new.self.check text (g.O.Sink.held c.args.out.now) (g.O.Sink.held c.report.new.out)
    (g.O.Sink.faults c.args.out.now) (g.O.Sink.faults c.report.new.out) stands
    (c.in-Ok.ensures.judged aim j stands.check_is follows) c.in-Err-report.stop c.report.new.self.check
    (λ log is texts. c.in-Err-report.ensures.reports aim (judge (rules_of aim) j c.args.item) log
    (c.in-Ok.ensures.judged aim j stands.check_is follows).is is (closed_of j) text texts)
