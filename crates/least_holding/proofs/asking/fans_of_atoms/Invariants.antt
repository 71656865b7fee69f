use Rattle.std.proofs.Common.{[], take}
use Rattle.pull_fans.specs.Fans.{pulls_of_fans}
use Rattle.rctl_parts.specs.Pieces.{pieces_of}
use Rattle.least_holding.specs.inside.Asking.{AsksMore}
use Rattle.least_holding.proofs.asking.fans_of_atoms.Given as goal

abbrev pub invariant-parts : goal.invariant-parts
invariant-parts l = AsksMore l.seen [] (pulls_of_fans l.fans) (pieces_of (take l.part-index l.parts))
