use Rattle.form_readings.proofs.Imports as law
use Rattle.form_readings.proofs.reading_laws.clocks_are_read.Goals as goal

pub returns : goal.returns
returns c = law.clocks_are_read
