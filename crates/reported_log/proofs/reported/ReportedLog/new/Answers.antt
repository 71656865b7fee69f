use Rattle.std.proofs.Common.{refl}
use Rattle.reported_log.proofs.Going.{may_first}
use Rattle.reported_log.proofs.reported.ReportedLog.new.Goals as goal

pub returns-in-Ok : goal.returns-in-Ok
returns-in-Ok g c = record {
  log = c.in-Ok.ensures;
  shown = refl;
  answers = may_first c.new-in-Ok.result.kept c.in-Ok.log.intake.observation c.new-in-Ok.ensures.goes_on;
}
