use Rattle.std.proofs.Common.{refl}
use Rattle.log_rules.proofs.WholeReadings.{one_report}
use Rattle.vclog_import.specs.Imported.{imported}
use Rattle.form_readings.specs.Clocks.{clocks_fault, clocks_place}
use Rattle.form_readings.specs.Sources.{merged_fault, merged_log_of, merged_place}
use Rattle.form_readings.proofs.reading_laws.one_report_is_due.Goals as goal

pub returns-clause-clocks : goal.returns-clause-clocks
returns-clause-clocks c = λ rules ended bytes. one_report clocks_fault imported clocks_place rules ended bytes refl

pub returns-clause-sources : goal.returns-clause-sources
returns-clause-sources c = λ rules ended bytes. one_report merged_fault merged_log_of merged_place rules ended bytes refl
