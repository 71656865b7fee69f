use Rattle.std.proofs.Common.{◌∙◌}
use Rattle.certificate_lines.proofs.LineLaws.{line_read, line_again}
use Rattle.certificate_lines.proofs.reading.read_line.Goals as goal

pub returns-clause-read : goal.returns-clause-read
returns-clause-read c = line_read c.args.line.now c.line_in.result c.line_in.ensures

pub returns-clause-only : goal.returns-clause-only
returns-clause-only c = λ said h. c.line_in.ensures ∙ line_again c.args.line.now said h
