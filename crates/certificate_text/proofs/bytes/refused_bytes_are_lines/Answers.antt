use Rattle.std.proofs.Common.{[], arith}
use Rattle.certificate_text.proofs.Refusing.{refused_lines, lines_refused}
use Rattle.certificate_text.proofs.bytes.refused_bytes_are_lines.Goals as goal

pub returns : goal.returns
returns g c = λ v bytes n. (λ h. refused_lines g.N.Said.follows bytes v [] n h tt (omega arith), lines_refused g.N.Said.follows v bytes n)
