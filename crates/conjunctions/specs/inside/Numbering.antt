-- Inside: which parts give the order by their pulls.
use Rattle.std.specs.Prelude.{Bool, false, ◌||◌, List, [], ◌∷◌}
use Rattle.rctl_parts.specs.Pieces.{Piece, atom, temporal}
use Rattle.part_pulls.specs.Operating.{operator_gives_order}

-- the part is one of the operators whose pulls give the order
abbrev pub part_gives_order : Piece → Bool
part_gives_order (atom a) = false
part_gives_order (temporal o ps) = operator_gives_order o

-- some part is EF, AG or EG
abbrev pub gives_order : List Piece → Bool
gives_order [] = false
gives_order (p ∷ ps) = part_gives_order p || gives_order ps
