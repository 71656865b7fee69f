-- What the parts with numbers mean.
use Rattle.std.proofs.Common.{◌↔◌, List, sym, subst}
use Rattle.run_model.specs.Cut.{Cut}
use Rattle.run_model.specs.Run.{Name, Run}
use Rattle.run_model.specs.Formula.{Formula}
use Rattle.run_model.specs.Consistent.{IsOrder, IsConsistent}
use Rattle.run_model.specs.Meaning.{Sat}
use Rattle.run_model.specs.Class.{SatDisjuncts, IsKeptFor, DisjunctsKeptFor}
use Rattle.event_log.specs.declared.log.Header.{Header}
use Rattle.rctl_parts.specs.Pieces as piece
use Rattle.rctl_parts.specs.Spelled.{disjunction_of, part_formulas}
use Rattle.rctl_parts.specs.declared.part.Resolved.{Resolved}
use Rattle.rctl_parts.proofs.Spelling.{disjuncts_spelled, spelled_disjuncts}
use Rattle.rctl_class.specs.Nodes.{Node, formula_of}
use Rattle.rctl_class.specs.NamedParts as named
use Rattle.rctl_class.specs.Classed.{IsClassed}
use Rattle.rctl_class.specs.Counters.{counters_of, disjuncts_counters, HaveSameMembers}
use Rattle.rctl_class.proofs.Kept.{same_kept}
use Rattle.rctl_class.proofs.Meaning.{classed_means}
use Rattle.rctl_names.specs.Seen.{names_of}
use Rattle.rctl_names.specs.Resolving.{IsResolved}

pub resolved_means : (n : Node) (ds : List (List named.NamedPiece)) → IsClassed n ds → (header : Header) (watches : List Name) (resolved : Resolved) → IsResolved header watches ds resolved →
    (r : Run) → IsOrder r.clocks → (c : Cut) → IsConsistent r.clocks c →
    Sat r (disjunction_of (names_of header watches) (piece.disjuncts_of resolved.disjuncts)) c ↔ Sat r (formula_of n) c
resolved_means n ds is header watches resolved made r order c k =
    let names = names_of header watches in
    let means = classed_means n ds is r order c k in
    let P : List (List Formula) → Type 0 = λ fs. SatDisjuncts r fs c in (
      λ h. means.0 (subst P made.spelled (spelled_disjuncts r names (piece.disjuncts_of resolved.disjuncts) c h)),
      λ h. disjuncts_spelled r names (piece.disjuncts_of resolved.disjuncts) c (subst P (sym made.spelled) (means.1 h)),
    )

pub resolved_counters : (n : Node) (ds : List (List named.NamedPiece)) → IsClassed n ds → (header : Header) (watches : List Name) (resolved : Resolved) → IsResolved header watches ds resolved →
    HaveSameMembers (disjuncts_counters (part_formulas (names_of header watches) (piece.disjuncts_of resolved.disjuncts))) (counters_of (formula_of n))
resolved_counters n ds is header watches resolved made =
    let P : List (List Formula) → Type 0 = λ fs. HaveSameMembers (disjuncts_counters fs) (counters_of (formula_of n)) in
    subst P (sym made.spelled) is.counters

pub resolved_asks : (n : Node) (ds : List (List named.NamedPiece)) → IsClassed n ds → (header : Header) (watches : List Name) (resolved : Resolved) → IsResolved header watches ds resolved →
    (r : Run) → DisjunctsKeptFor r (part_formulas (names_of header watches) (piece.disjuncts_of resolved.disjuncts)) ↔ IsKeptFor r (formula_of n)
resolved_asks n ds is header watches resolved made r =
    same_kept r (part_formulas (names_of header watches) (piece.disjuncts_of resolved.disjuncts)) (formula_of n) (resolved_counters n ds is header watches resolved made)
