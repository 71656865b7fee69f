use Rattle.log_merge.proofs.Fits as fits
use Rattle.log_merge.proofs.laws.logs_are_sources.Goals as goal

pub returns : goal.returns
returns c = fits.logs_are_sources
