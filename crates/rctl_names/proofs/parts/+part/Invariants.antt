use Rattle.std.proofs.Common.{take}
use Rattle.rctl_class.specs.NamedParts.{pieces as named_operand, pieces_of as named_list}
use Rattle.rctl_parts.specs.Pieces.{pieces, pieces_of}
use Rattle.rctl_names.specs.inside.Resolving.{ArePiecesIn}
use Rattle.rctl_names.proofs.parts.+part.Given as goal

abbrev pub invariant-resolve_parts-parts : goal.invariant-resolve_parts-parts
invariant-resolve_parts-parts l =
    ArePiecesIn l.scope l.initial.watches l.watches (named_operand (named_list (take l.part-index l.parts))) (pieces (pieces_of l.made))
