use Rattle.kept_log.proofs.Fits.{log_fits}
use Rattle.kept_log.proofs.Spelled.{assigns_fit}
use Rattle.kept_log.proofs.Folded.{run_kept}
use Rattle.kept_log.proofs.Faults.{no_fault_arises}
use Rattle.kept_log.proofs.kept_logs_have_kept_runs.Goals as goal

pub returns-clause-run : goal.returns-clause-run
returns-clause-run c = run_kept

pub returns-clause-places : goal.returns-clause-places
returns-clause-places c = log_fits

pub returns-clause-faults : goal.returns-clause-faults
returns-clause-faults c = no_fault_arises

pub returns-clause-assignments : goal.returns-clause-assignments
returns-clause-assignments c = assigns_fit
