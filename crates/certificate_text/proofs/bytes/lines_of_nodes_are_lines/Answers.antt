use Rattle.certificate_text.proofs.Lines.{line_is}
use Rattle.certificate_text.proofs.bytes.lines_of_nodes_are_lines.Goals as goal

pub returns : goal.returns
returns c = line_is
