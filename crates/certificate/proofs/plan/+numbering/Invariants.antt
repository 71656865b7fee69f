use Rattle.std.proofs.Common.{take}
use Rattle.rctl_parts.specs.Pieces.{pieces_of}
use Rattle.certificate.proofs.Steps.{Numbered}
use Rattle.certificate.proofs.plan.+numbering.Given as goal

abbrev pub invariant-number_parts-parts : goal.invariant-number_parts-parts
invariant-number_parts-parts l = Numbered l.seen l.initial.nodes l.nodes l.asked (pieces_of (take l.part-index l.parts))
