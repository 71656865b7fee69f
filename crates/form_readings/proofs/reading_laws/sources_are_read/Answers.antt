use Rattle.form_readings.proofs.Merging as law
use Rattle.form_readings.proofs.reading_laws.sources_are_read.Goals as goal

pub returns : goal.returns
returns c = law.sources_are_read
