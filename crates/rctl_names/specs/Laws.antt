-- What the laws of this crate say.
use Rattle.event_log.specs.declared.log.Header.{Header}
use Rattle.rctl_class.specs.Classed.{IsClassed}
use Rattle.rctl_class.specs.NamedParts.{NamedPiece}
use Rattle.rctl_class.specs.Nodes.{Node, formula_of}
use Rattle.rctl_names.specs.Resolving.{IsResolved}
use Rattle.rctl_names.specs.Seen.{names_of}
use Rattle.rctl_parts.specs.Pieces.{disjuncts_of}
use Rattle.rctl_parts.specs.Spelled.{disjunction_of, part_formulas}
use Rattle.rctl_parts.specs.declared.part.Resolved.{Resolved}
use Rattle.run_model.specs.Consistent.{IsConsistent, IsOrder}
use Rattle.run_model.specs.Cut.{Cut}
use Rattle.run_model.specs.Meaning.{Sat}
use Rattle.run_model.specs.Run.{Name, Run}
use Rattle.std.specs.Prelude.{◌↔◌, List}
use Rattle.rctl_class.specs.Counters.{HaveSameMembers, counters_of, disjuncts_counters}
use Rattle.run_model.specs.Class.{DisjunctsKeptFor, IsKeptFor}

-- the resolved disjuncts are as true as the formula at each consistent cut
abbrev pub ResolvedPartsMeanTheFormula : Type 0
ResolvedPartsMeanTheFormula = (n : Node) (ds : List (List NamedPiece)) → IsClassed n ds
    → (header : Header) (watches : List Name) (resolved : Resolved)
    → IsResolved header watches ds resolved
    → (r : Run) → IsOrder r.clocks → (c : Cut) → IsConsistent r.clocks c
    → Sat r (disjunction_of (names_of header watches) (disjuncts_of resolved.disjuncts)) c
    ↔ Sat r (formula_of n) c

-- the resolved disjuncts have the counters of the formula
abbrev pub ResolvedPartsHaveTheCounters : Type 0
ResolvedPartsHaveTheCounters = (n : Node) (ds : List (List NamedPiece)) → IsClassed n ds
    → (header : Header) (watches : List Name) (resolved : Resolved)
    → IsResolved header watches ds resolved
    → HaveSameMembers (disjuncts_counters
    (part_formulas (names_of header watches) (disjuncts_of resolved.disjuncts)))
    (counters_of (formula_of n))

-- a run keeps the same for the resolved disjuncts as for the formula
abbrev pub ResolvedPartsAreKeptAlike : Type 0
ResolvedPartsAreKeptAlike = (n : Node) (ds : List (List NamedPiece)) → IsClassed n ds
    → (header : Header) (watches : List Name) (resolved : Resolved)
    → IsResolved header watches ds resolved → (r : Run)
    → DisjunctsKeptFor r
    (part_formulas (names_of header watches) (disjuncts_of resolved.disjuncts))
    ↔ IsKeptFor r (formula_of n)
