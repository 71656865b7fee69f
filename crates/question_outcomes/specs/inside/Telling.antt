-- What is told of disjuncts.
use Rattle.std.specs.Prelude.{◌≡◌, ℕ, ◌≤◌, ◌↔◌, ⊤, Bool, true, IsTrue, List, [], ◌∷◌, map}
use Rattle.run_model.specs.Cut.{initial}
use Rattle.run_model.specs.Meaning.{Sat}
use Rattle.run_model.specs.Class.{SatParts}
use Rattle.pota_base.specs.Limits.{most_parts}
use Rattle.rctl_grammar.specs.declared.tree.Operator.TheVariants as operator
use Rattle.rctl_parts.specs.Pieces.{Piece}
use Rattle.rctl_parts.specs.Spelled.{disjunction_of, formula_of, part_formulas}
use Rattle.rctl_parts.specs.MadeFor.{EachFits, parts_count}
use Rattle.asked_parts.specs.Asked.{over}
use Rattle.part_pulls.specs.declared.observed.Observed.{Observed}
use Rattle.part_pulls.specs.Observing.{Reading, AreAnswers, clocks_seen, run_seen, names_seen}
use Rattle.part_pulls.specs.Observing.{scope_seen}
use Rattle.part_pulls.specs.Counters.{AllRise, counters_of_parts}
use Rattle.least_holding.specs.Least.{are_atoms}
use Rattle.report_lines.specs.declared.kinds.WitnessText.{WitnessText}
use Rattle.run_report.specs.Witnesses.{ArePartTexts, IsTextOfFalse}
use Rattle.answer_report.specs.Told.{AreWitnessesOf}
use Rattle.question_outcomes.specs.declared.told.Reached.{Reached}
use Rattle.question_outcomes.specs.declared.told.Reached.TheVariants.{Somewhere, Nowhere, Other}

-- something may be told of these parts: they are made for what was observed, few, and none of their
-- counters falls
pub record CanTell (seen : Observed) (ps : List Piece) : Type 0 where
  pub fits : EachFits (scope_seen seen) ps
  pub counters : AllRise seen (counters_of_parts ps)
  pub count : parts_count ps ≤ most_parts

-- the disjunct is EF over these parts, of which none has an operator
pub record ReachesAtoms (d ps : List Piece) : Type 0 where
  pub is : d ≡ over operator.Ef ps ∷ []
  pub atoms : are_atoms ps ≡ true

-- of the disjunct with number n: it is true, and has this one witness, or it is false, and the
-- witness is that of its first false part
abbrev pub IsReached : Observed → ℕ → List Piece → Reached → Type 0
IsReached seen n d (Somewhere w) =
    (reading : Reading) → AreAnswers seen reading
    → SatParts (run_seen seen reading) (map (formula_of (names_seen seen reading)) d)
    (initial (clocks_seen seen))
    × ArePartTexts (run_seen seen reading) n 1 (map (formula_of (names_seen seen reading)) d)
    (w ∷ [])
IsReached seen n d (Nowhere w) =
    (reading : Reading) → AreAnswers seen reading
    → (SatParts (run_seen seen reading) (map (formula_of (names_seen seen reading)) d)
    (initial (clocks_seen seen)) → ⊥)
    × IsTextOfFalse (run_seen seen reading) n 1 (map (formula_of (names_seen seen reading)) d) w
IsReached seen n d Other = ⊤

-- the truth of the disjuncts at the initial cut, and the witnesses that go with it
pub record IsTold (seen : Observed) (ds : List (List Piece)) (truth : Bool) (ws : List WitnessText)
    : Type 0 where
  pub truth_is : (reading : Reading) → AreAnswers seen reading
      → IsTrue truth ↔ Sat (run_seen seen reading) (disjunction_of (names_seen seen reading) ds)
      (initial (clocks_seen seen))
  pub witnesses : (reading : Reading) → AreAnswers seen reading
      → AreWitnessesOf (run_seen seen reading) (part_formulas (names_seen seen reading) ds) truth ws
