use Rattle.std.proofs.Common.{◌≡◌, take}
use Rattle.rctl_class.specs.NamedParts.{pieces_of}
use Rattle.over_questions.specs.Barred.{barred_parts}
use Rattle.over_questions.proofs.barred.+parts.Given as goal

abbrev pub invariant-barred_parts-parts : goal.invariant-barred_parts-parts
invariant-barred_parts-parts l = l.found ≡ barred_parts (pieces_of (take l.part-index l.parts))
