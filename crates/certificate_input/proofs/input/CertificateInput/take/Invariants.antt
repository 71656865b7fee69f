use Rattle.std.proofs.Common.{length}
use Rattle.certificate_input.proofs.PieceLaws.{HasTaken}
use Rattle.certificate_input.proofs.input.CertificateInput.take.Given as goal

abbrev pub invariant-lines : goal.invariant-lines
invariant-lines g l = HasTaken g.N.Said.follows l.fn.self l.self l.fn.piece l.rest

abbrev pub decreases-lines : goal.decreases-lines
decreases-lines g l = length l.rest
