-- The conjunctions of a formula in the order of their numbers: each disjunct, and before it the
-- operands of its temporal parts in the order of the parts, each behind the operands within it.
use Rattle.std.specs.Prelude.{Bool, true, ◌&&◌, List, [], ◌∷◌, ◌++◌, flat_map}
use Rattle.rctl_parts.specs.Pieces.{Piece, Pieces, atom, temporal, none, more, listed}
use Rattle.part_pulls.specs.Systems.{is_atom}

abbrev mutual
  -- the conjunctions within a part: those within its operand, and then the operand
  pub within : Piece → List (List Piece)
  within (atom a) = []
  within (temporal operator ps) = within_operand ps ++ listed ps ∷ []

  pub within_operand : Pieces → List (List Piece)
  within_operand none = []
  within_operand (more p ps) = within p ++ within_operand ps

-- the conjunctions within the parts, and then that of the parts
abbrev pub conjunctions_in : List Piece → List (List Piece)
conjunctions_in ps = flat_map within ps ++ ps ∷ []

-- the conjunctions of all disjuncts
abbrev pub all_conjunctions : List (List Piece) → List (List Piece)
all_conjunctions ds = flat_map conjunctions_in ds

-- none of the parts is temporal
abbrev pub all_atoms : List Piece → Bool
all_atoms [] = true
all_atoms (p ∷ ps) = is_atom p && all_atoms ps
