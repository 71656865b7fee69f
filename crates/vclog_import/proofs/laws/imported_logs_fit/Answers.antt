use Rattle.vclog_import.proofs.Fits as law
use Rattle.vclog_import.proofs.laws.imported_logs_fit.Goals as goal

pub returns : goal.returns
returns c = law.imported_logs_fit
