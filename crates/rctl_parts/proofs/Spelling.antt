-- What the formulas of parts mean.
use Rattle.std.specs.Prelude.{List, [], ◌∷◌, map}
use Rattle.std.proofs.Common.{◌≡◌, refl, inl, inr}
use Rattle.run_model.specs.Cut.{Cut}
use Rattle.run_model.specs.Run.{Run}
use Rattle.run_model.specs.Meaning.{SatAll, SatSome}
use Rattle.run_model.specs.Class.{SatParts, SatDisjuncts}
use Rattle.rctl_parts.specs.Pieces.{Piece, Pieces, none, more, pieces, listed}
use Rattle.rctl_parts.specs.Spelled.{Names, formula_of, formulas_of, conjunctions_of, part_formulas}

pub parts_spelled : (r : Run) (names : Names) (ps : List Piece) (c : Cut) → SatParts r (map (formula_of names) ps) c → SatAll r (formulas_of names (pieces ps)) c
parts_spelled r names [] c h = h
parts_spelled r names (p ∷ ps) c h = (h.0, parts_spelled r names ps c h.1)

pub spelled_parts : (r : Run) (names : Names) (ps : List Piece) (c : Cut) → SatAll r (formulas_of names (pieces ps)) c → SatParts r (map (formula_of names) ps) c
spelled_parts r names [] c h = h
spelled_parts r names (p ∷ ps) c h = (h.0, spelled_parts r names ps c h.1)

pub disjuncts_spelled : (r : Run) (names : Names) (ds : List (List Piece)) (c : Cut) → SatDisjuncts r (part_formulas names ds) c → SatSome r (conjunctions_of names ds) c
disjuncts_spelled r names [] c h = h
disjuncts_spelled r names (d ∷ ds) c (inl h) = inl (parts_spelled r names d c h)
disjuncts_spelled r names (d ∷ ds) c (inr h) = inr (disjuncts_spelled r names ds c h)

pub spelled_disjuncts : (r : Run) (names : Names) (ds : List (List Piece)) (c : Cut) → SatSome r (conjunctions_of names ds) c → SatDisjuncts r (part_formulas names ds) c
spelled_disjuncts r names [] c h = h
spelled_disjuncts r names (d ∷ ds) c (inl h) = inl (spelled_parts r names d c h)
spelled_disjuncts r names (d ∷ ds) c (inr h) = inr (spelled_disjuncts r names ds c h)

-- parts in a list are the same as parts of an operand
pub listed-pieces : (ps : List Piece) → listed (pieces ps) ≡ ps
listed-pieces [] = refl
listed-pieces (p ∷ ps) = rw (listed-pieces ps) refl

pub pieces-listed : (ps : Pieces) → pieces (listed ps) ≡ ps
pieces-listed none = refl
pieces-listed (more p ps) = rw (pieces-listed ps) refl
