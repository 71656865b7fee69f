use Rattle.view_parts.proofs.Steps.{only_last}
use Rattle.view_parts.proofs.reading.read_last_report.Goals as goal

pub returns-clause-only : goal.returns-clause-only
returns-clause-only c = only_last c.args.text.now c.read_lines.result c.read_lines.ensures
