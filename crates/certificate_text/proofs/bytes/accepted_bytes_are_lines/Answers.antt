use Rattle.certificate_text.proofs.Lines.{accepted_bytes, has_lines}
use Rattle.certificate_text.proofs.bytes.accepted_bytes_are_lines.Goals as goal

pub returns-clause-lines : goal.returns-clause-lines
returns-clause-lines g c = has_lines g.N.Said.follows

pub returns-clause-bytes : goal.returns-clause-bytes
returns-clause-bytes g c = accepted_bytes g.N.Said.follows
