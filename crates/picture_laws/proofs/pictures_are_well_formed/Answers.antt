use Rattle.picture_laws.proofs.OfRuns.{pictures_of_runs, written_pictures}
use Rattle.picture_laws.proofs.WellFormed.{pictures_are_well_formed}
use Rattle.picture_laws.proofs.pictures_are_well_formed.Goals as goal

pub returns-clause-text : goal.returns-clause-text
returns-clause-text c = pictures_are_well_formed

pub returns-clause-of_runs : goal.returns-clause-of_runs
returns-clause-of_runs c = pictures_of_runs

pub returns-clause-written : goal.returns-clause-written
returns-clause-written c = written_pictures
