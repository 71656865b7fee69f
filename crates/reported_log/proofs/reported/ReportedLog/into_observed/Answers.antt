use Rattle.reported_log.specs.Aims.{taken_for}
use Rattle.reported_log.proofs.reported.ReportedLog.into_observed.Goals as goal

pub into_observed-requires : goal.into_observed-requires
into_observed-requires g c =
    let r = c.requires.check in
    record { check = (taken_for r.0, r.1, r.2, r.3.log, r.4) }

pub returns-clause-log : goal.returns-clause-log
returns-clause-log g c aim j log is closed = c.into_observed.ensures.log (taken_for aim) j log is.log closed
