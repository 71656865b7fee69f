use Rattle.form_readings.proofs.Origins.{have_an_origin}
use Rattle.form_readings.proofs.reading_laws.faults_have_an_origin.Goals as goal

pub returns : goal.returns
returns c = have_an_origin
