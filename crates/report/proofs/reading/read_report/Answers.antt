use Rattle.report.proofs.ReadSteps.{only_report}
use Rattle.report.proofs.reading.read_report.Goals as goal

pub returns-clause-only : goal.returns-clause-only
returns-clause-only c = only_report c.args.text.now c.read_lines.result c.read_lines.ensures
