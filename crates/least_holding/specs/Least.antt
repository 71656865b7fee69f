-- The least consistent cut at which a conjunction is true.
use Rattle.std.specs.Prelude.{◌≡◌, Bool, true, ◌&&◌, List, [], ◌∷◌, Option}
use Rattle.run_model.specs.Cut.{Cut}
use Rattle.run_model.specs.Slice.{IsLeastOf, Slice, StandsFor}
use Rattle.rctl_parts.specs.Pieces.{Piece}
use Rattle.part_pulls.specs.Systems.{is_atom}
use Rattle.part_pulls.specs.declared.observed.Observed.{Observed}
use Rattle.part_pulls.specs.Observing.{Reading, AreAnswers, Satisfying, clocks_seen}

-- none of the parts has an operator
abbrev pub are_atoms : List Piece → Bool
are_atoms [] = true
are_atoms (p ∷ ps) = is_atom p && are_atoms ps

-- it is the least consistent cut at which all of the parts are true, or absent where there is none,
-- whatever watches answer what was observed of the watches
abbrev pub IsLeastHolding : Observed → List Piece → Option Cut → Type 0
IsLeastHolding seen ps least =
    (reading : Reading) → AreAnswers seen reading → IsLeastOf (Satisfying seen reading ps) least

-- and it is the bottom of the slice of the cuts at which all of them are true
abbrev pub IsBottomHolding : Observed → List Piece → Option Cut → Type 0
IsBottomHolding seen ps least =
    (reading : Reading) → AreAnswers seen reading
    → (s : Slice) × StandsFor (clocks_seen seen) s (Satisfying seen reading ps) × (s.bottom ≡ least)
