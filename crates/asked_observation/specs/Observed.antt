-- What is observed for a list of questions, or the first of their names that a header does not
-- have.
use Rattle.std.specs.Prelude.{◌≡◌, ℕ, ◌+◌, nat_lt, List, [], ◌∷◌, take, None, Some}
use Rattle.std.specs.Prelude.{if◌then◌else◌}
use Rattle.run_model.specs.Run.{Name}
use Rattle.asked_list.specs.Lists.{asked_each, disjuncts_in}
use Rattle.asked_list.specs.declared.list.AskedList.{AskedList}
use Rattle.asked_list.specs.declared.list.Listed.{Listed}
use Rattle.observation.specs.Growing.{GrowingView}
use Rattle.pota_base.specs.declared.fault.Refused.{Refused}
use Rattle.pota_base.specs.declared.fault.Refused.TheVariants as refused
use Rattle.rctl_class.specs.NamedParts.{NamedPiece, disjuncts_uses}
use Rattle.rctl_class.specs.Uses.{KnownNames, first_unknown}
use Rattle.rctl_grammar.specs.declared.fault.FormulaFault.{FormulaFault}
use Rattle.rctl_names.specs.Resolving.{IsResolved}
use Rattle.rctl_parts.specs.Pieces.{disjuncts_of}
use Rattle.rctl_parts.specs.declared.part.Resolved.{Resolved}
use Rattle.asked_observation.specs.declared.unknown.UnknownName.{UnknownName}

-- the observed formula is what the list asks, with the names of the header and of the watches
pub record IsObservedList (list : AskedList) (names : List Name) (growing : GrowingView)
    : Type 0 where
  pub resolved : Resolved
  pub known : IsResolved growing.seen.trace.states.header names (disjuncts_in list) resolved
  pub asked : disjuncts_of growing.disjuncts
      ≡ asked_each list.forms (disjuncts_of resolved.disjuncts)

-- ---- an unknown name

-- the first name that is unknown, or is a watch on a second process, stands behind so many of the
-- disjuncts, in the next one, and has this fault
pub record IsUnknownBehind (known : KnownNames) (ds : List (List NamedPiece)) (before : ℕ)
    (fault : FormulaFault) : Type 0 where
  pub free : first_unknown known [] (disjuncts_uses (take before ds)) ≡ None
  pub here : first_unknown known [] (disjuncts_uses (take (before + 1) ds)) ≡ Some fault

-- the fault, as one of the question that has the disjunct behind so many others; the first of these
-- entries has that number
abbrev pub unknown_from : (number before : ℕ) → FormulaFault → List Listed → UnknownName
unknown_from number before fault [] = record { question = number; formula = 0; fault = fault }
unknown_from number before fault (q ∷ qs) =
    if nat_lt before q.range.to
    then record { question = number; formula = q.formula; fault = fault }
    else unknown_from (number + 1) before fault qs

-- the first name of the list that is unknown has this fault, and is one of the question of that
-- number
pub record IsUnknownIn (known : KnownNames) (list : AskedList) (unknown : UnknownName)
    : Type 0 where
  pub before : ℕ
  pub first : IsUnknownBehind known (disjuncts_in list) before unknown.fault
  pub named : unknown ≡ unknown_from 1 before unknown.fault list.listed

-- a fault is such; nothing is said where memory runs out
abbrev pub Refuses : Refused UnknownName → (UnknownName → Type 0) → Type 0
Refuses (refused.Fault f) Is = Is f
Refuses refused.NoMemory Is = Unit {0}
