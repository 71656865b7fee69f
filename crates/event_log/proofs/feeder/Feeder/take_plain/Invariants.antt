use Rattle.std.proofs.Common.{take, None}
use Rattle.event_log.specs.inside.Feeding.{TakesPlain}
use Rattle.event_log.proofs.feeder.Feeder.take_plain.Given as goal

abbrev pub invariant-bytes : goal.invariant-bytes
invariant-bytes l = TakesPlain l.fn.self (take l.i l.chunk) None l.self
