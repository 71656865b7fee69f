use Rattle.std.proofs.Common.{Bool, Err}
use Rattle.vector_clock.proofs.Admitting.{if_fault}
use Rattle.reported_log.specs.Aims.{taken_for}
use Rattle.reported_log.proofs.Going.{may_still}
use Rattle.reported_log.proofs.reported.ReportedLog.take.Goals as goal

pub take-requires : goal.take-requires
take-requires g c =
    let r = c.requires.check in
    record { check = (taken_for r.0, r.1, r.2.log, r.3) }

pub returns-in-Ok-clause-ok : goal.returns-in-Ok-clause-ok
returns-in-Ok-clause-ok g c aim j is fit =
    let on = c.in-Ok.ensures.ok (taken_for aim) j is.log fit in
    record {
      is = record {
        log = on.is;
        shown = is.shown;
        answers = may_still c.what_goes_on_goes_on_later.ensures c.args.self.now.answering.kept c.args.self.now.log.intake.observation c.take.new.self.intake.observation c.in-Ok.ensures.later is.answers;
      };
      closes = on.closes;
    }

pub returns-in-Err-clause-fault : goal.returns-in-Err-clause-fault
returns-in-Err-clause-fault g c = if_fault {T = Bool} (Err c.in-Err.refused) (λ why told aim j is fit. told (taken_for aim) j is.log fit) c.in-Err.ensures.fault
