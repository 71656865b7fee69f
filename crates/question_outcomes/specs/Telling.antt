-- When outcomes are those of the questions of a list, on what was observed for it.
use Rattle.std.specs.Prelude.{◌≡◌, ⊤, IfSome, Option, List, [], ◌∷◌}
use Rattle.run_model.specs.Cut.{Clocks}
use Rattle.pull_system.specs.System.{SystemView}
use Rattle.slice_graph.specs.Growing.{system_of_order}
use Rattle.question_meaning.specs.declared.form.Form.{Form}
use Rattle.rctl_parts.specs.Pieces.{Piece}
use Rattle.asked_parts.specs.Asked.{asked_disjuncts}
use Rattle.asked_list.specs.Lists.{IsAskedIn}
use Rattle.asked_list.specs.declared.list.AskedRange.{AskedRange}
use Rattle.asked_list.specs.declared.list.Listed.{Listed}
use Rattle.part_pulls.specs.declared.observed.Observed.{Observed}
use Rattle.part_pulls.specs.Observing.{Reading, AreAnswers, run_seen, names_seen}
use Rattle.question_outcome.specs.Outcomes.{IsOutcome}
use Rattle.question_outcome.specs.declared.outcome.Outcome.{Outcome}

-- the outcome of a question of this form that asks these disjuncts, whatever watches answer what
-- was observed of the watches
abbrev pub IsOutcomeOf : Observed → List (List Piece) → Form → Outcome → Type 0
IsOutcomeOf seen ds form o =
    (reading : Reading) → AreAnswers seen reading
    → (own : List (List Piece)) → ds ≡ asked_disjuncts form own
    → IsOutcome (run_seen seen reading) (names_seen seen reading) form own o

-- the outcome of a question of the list, whose disjuncts these are, by its range
abbrev pub IsOutcomeIn : Observed → List (List Piece) → AskedRange → Outcome → Type 0
IsOutcomeIn seen ds range o =
    (reading : Reading) → AreAnswers seen reading
    → (own : List (List Piece)) → IsAskedIn ds range own
    → IsOutcome (run_seen seen reading) (names_seen seen reading) range.form own o

-- one outcome for each question, in their order
abbrev pub AreOutcomes : Observed → List (List Piece) → List Listed → List Outcome → Type 0
AreOutcomes seen ds [] [] = ⊤
AreOutcomes seen ds [] (o ∷ os) = ⊥
AreOutcomes seen ds (q ∷ qs) [] = ⊥
AreOutcomes seen ds (q ∷ qs) (o ∷ os) = IsOutcomeIn seen ds q.range o × AreOutcomes seen ds qs os

-- ---- from one question to the next

-- the system that is at hand, if any, is that of the order's pulls alone
pub record HasSystem (o : Clocks) (system : Option SystemView) : Type 0 where
  pub own : IfSome system (λ s. s ≡ system_of_order o)
