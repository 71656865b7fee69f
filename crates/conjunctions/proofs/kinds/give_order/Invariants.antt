use Rattle.std.proofs.Common.{◌≡◌, false, take}
use Rattle.rctl_parts.specs.Pieces.{pieces_of}
use Rattle.conjunctions.specs.inside.Numbering.{gives_order}
use Rattle.conjunctions.proofs.kinds.give_order.Given as goal

abbrev pub invariant-loop-part : goal.invariant-loop-part
invariant-loop-part l = gives_order (pieces_of (take l.part-index l.parts)) ≡ false
