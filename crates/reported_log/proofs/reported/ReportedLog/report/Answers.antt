use Rattle.std.proofs.Common.{sym, ap, subst}
use Rattle.part_pulls.specs.declared.observed.Observed.{Observed}
use Rattle.part_pulls.specs.Observing.{IsReady}
use Rattle.rctl_parts.specs.Pieces.{disjuncts_of}
use Rattle.answering.specs.PassedOn.{IsAnswer}
use Rattle.log_check.specs.Aims as log_aims
use Rattle.log_check.proofs.HandingOver.{has_taken}
use Rattle.reported_log.specs.Aims.{taken_for}
use Rattle.reported_log.proofs.Going.{may_now, may_then}
use Rattle.reported_log.proofs.Reports.{text_canonical, batches_there, reported}
use Rattle.reported_log.proofs.reported.ReportedLog.report.Goals as goal

pub observation-observation-requires : goal.observation-observation-requires
observation-observation-requires g c =
    let r = c.requires.check in
    (taken_for r.0, r.1, r.2, r.3.log, r.4)

pub answer-requires-clause-taken : goal.answer-requires-clause-taken
answer-requires-clause-taken g c κs lives =
    let r = c.requires.check in
    has_taken (λ h. (goal.Watch-dyn g (h.watch.vtable, h.watch.value)).answers h.watch.value) (taken_for r.0) r.1 r.2 c.observation-observation.result.now r.4
    (c.observation-observation.ensures.is (taken_for r.0) r.1 r.2 r.3.log r.4)

pub answer-requires-clause-goes_on : goal.answer-requires-clause-goes_on
answer-requires-clause-goes_on g c κs lives =
    may_now c.args.self.now.answering.kept c.args.self.now.log.intake.observation c.observation-observation.result.now c.observation-observation.ensures.kept c.requires.check.3.answers

pub report_on-requires-clause-ready : goal.report_on-requires-clause-ready
report_on-requires-clause-ready g c =
    let r = c.requires.check in
    let taken = has_taken (λ h. (goal.Watch-dyn g (h.watch.vtable, h.watch.value)).answers h.watch.value) (taken_for r.0) r.1 r.2 c.observation-observation.result.now r.4
    (c.observation-observation.ensures.is (taken_for r.0) r.1 r.2 r.3.log r.4) in
    subst IsReady (sym c.seen-seen.ensures.seen) (c.seen-seen.ensures.ready taken)

pub report_on-requires-clause-answer : goal.report_on-requires-clause-answer
report_on-requires-clause-answer g c =
    let ds = disjuncts_of c.observation-observation.result.now.growing.disjuncts in
    (ds, subst (λ (s : Observed). IsAnswer s ds c.in-Ok.answer) (sym c.seen-seen.ensures.seen) c.in-Ok.ensures.answer)

pub returns-in-Ok-report_on-clause-says : goal.returns-in-Ok-report_on-clause-says
returns-in-Ok-report_on-clause-says g c aim j log is closed =
    let h = c.observation-observation.ensures.is (taken_for aim) j log is.log closed in
    let taken = has_taken (λ h. (goal.Watch-dyn g (h.watch.vtable, h.watch.value)).answers h.watch.value) (taken_for aim) j log c.observation-observation.result.now closed h in
    reported (λ h. (goal.Watch-dyn g (h.watch.vtable, h.watch.value)).answers h.watch.value) aim c.args.self.now.log.stated.text log c.observation-observation.result.now c.seen-seen.result.now c.in-Ok.answer c.in-Ok-report_on.report _ h
    c.seen-seen.ensures.seen (ap (λ (a : log_aims.Aim). a.text) is.log.aim_is) is.shown
    (c.seen-seen.ensures.rise h.is.unspent) (c.seen-seen.ensures.answers taken h.is.watches.handed (log_aims.reading_of (taken_for aim)) h.is.watches.fed h.is.watches.answers)
    c.in-Ok.ensures.answer c.in-Ok-report_on.ensures.names c.in-Ok-report_on.ensures.says

pub returns-in-Ok-report_on-clause-fits : goal.returns-in-Ok-report_on-clause-fits
returns-in-Ok-report_on-clause-fits g c =
    let r = c.requires.check in
    let h = c.observation-observation.ensures.is (taken_for r.0) r.1 r.2 r.3.log r.4 in
    let taken = has_taken (λ h. (goal.Watch-dyn g (h.watch.vtable, h.watch.value)).answers h.watch.value) (taken_for r.0) r.1 r.2 c.observation-observation.result.now r.4 h in
    c.in-Ok-report_on.ensures.formed (text_canonical c.args.self.now.log.stated r.3.log.text r.3.log.stated) (batches_there c.observation-observation.result.now.growing c.seen-seen.result.now taken c.seen-seen.ensures.seen)

pub returns-in-Ok-report_on-clause-goes_on : goal.returns-in-Ok-report_on-clause-goes_on
returns-in-Ok-report_on-clause-goes_on g c aim j is = record {
  log = is.log;
  shown = is.shown;
  answers = may_then c.answer.new.self.kept c.args.self.now.log.intake.observation c.observation-observation.result.now c.observation-observation.ensures.kept c.in-Ok.ensures.goes_on;
}
