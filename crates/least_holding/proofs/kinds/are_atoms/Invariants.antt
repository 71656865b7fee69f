use Rattle.std.proofs.Common.{◌≡◌, true, take}
use Rattle.rctl_parts.specs.Pieces.{pieces_of}
use Rattle.least_holding.specs.Least.{are_atoms}
use Rattle.least_holding.proofs.kinds.are_atoms.Given as goal

abbrev pub invariant-loop-part : goal.invariant-loop-part
invariant-loop-part l = are_atoms (pieces_of (take l.part-index l.parts)) ≡ true
