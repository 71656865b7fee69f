use Rattle.std.proofs.Common.{Err}
use Rattle.vector_clock.proofs.Admitting.{if_fault}
use Rattle.reported_log.specs.Aims.{taken_for}
use Rattle.reported_log.proofs.Going.{may_still}
use Rattle.reported_log.proofs.reported.ReportedLog.take_log.Goals as goal

pub take_log-requires-clause-check : goal.take_log-requires-clause-check
take_log-requires-clause-check g c = (taken_for c.requires.check.0, c.requires.check.1.log)

pub returns-in-Ok-clause-ok : goal.returns-in-Ok-clause-ok
returns-in-Ok-clause-ok g c aim is = record {
  log = c.in-Ok.ensures.ok (taken_for aim) is.log;
  shown = is.shown;
  answers = may_still c.what_goes_on_goes_on_later.ensures c.args.self.now.answering.kept c.args.self.now.log.intake.observation c.take_log.new.self.intake.observation c.in-Ok.ensures.later is.answers;
}

pub returns-in-Err-clause-fault : goal.returns-in-Err-clause-fault
returns-in-Err-clause-fault g c = if_fault {T = Unit {0}} (Err c.in-Err.refused) (λ why told aim is. told (taken_for aim) is.log) c.in-Err.ensures.fault
