-- When an outcome is that of a question on a run: what it says of the question, what it shows
-- against it, and which parts it says to hold nowhere.
use Rattle.std.specs.Prelude.{◌≡◌, ℕ, ◌+◌, ◌↔◌, ◌⊎◌, ⊤, Bool, false, not, IsTrue, MatchBool}
use Rattle.std.specs.Prelude.{List, [], ◌∷◌, ◌++◌}
use Rattle.run_model.specs.Run.{Run}
use Rattle.run_model.specs.Formula.{Formula}
use Rattle.question_meaning.specs.Question.{Holds, Never, Can}
use Rattle.question_meaning.specs.Asking.{is_turned}
use Rattle.question_meaning.specs.declared.form.Form.{Form}
use Rattle.question_meaning.specs.declared.form.Form.TheVariants as form
use Rattle.rctl_parts.specs.Pieces as piece
use Rattle.rctl_parts.specs.Pieces.{Piece}
use Rattle.rctl_parts.specs.Spelled.{Names, atom_formula, part_formulas}
use Rattle.asked_parts.specs.Asked.{IsAnsweredBy, asked_disjuncts}
use Rattle.report_lines.specs.declared.kinds.WitnessText.{WitnessText}
use Rattle.run_report.specs.Witnesses.{AreTextsOfTrue, AreTextsOfFalse}
use Rattle.question_outcome.specs.declared.outcome.Outcome.{Outcome}
use Rattle.question_outcome.specs.declared.outcome.PartPlace.{PartPlace}

-- ---- what is shown against a question

-- the witnesses against a question that doesn't hold: those of all parts of the first true disjunct
-- of what was asked, or, where the question asks for the truth of it, of the first false part of
-- each
abbrev pub AreAgainst : Run → Form → List (List Formula) → List WitnessText → Type 0
AreAgainst r form ds ws =
    MatchBool (is_turned form) (AreTextsOfTrue r 1 ds ws) (AreTextsOfFalse r 1 ds ws)

-- ---- what holds nowhere

-- the answer alone says nothing of the run: no consistent cut satisfies what is asked of
abbrev pub tells_nothing : Form → Bool → Bool
tells_nothing form.Never holds = holds
tells_nothing form.Can holds = not holds
tells_nothing form.Always holds = false
tells_nothing form.AlwaysByNegation holds = holds
tells_nothing form.Surely holds = false
tells_nothing form.AtEnd holds = false
tells_nothing form.Plain holds = false

-- the formula of a part without an operator, with its place
pub record PlacedPart : Type 0 where
  pub place : PartPlace
  pub formula : Formula

-- those of these parts of disjunct i, the first of which is part j
abbrev pub placed_parts : Names → ℕ → ℕ → List Piece → List PlacedPart
placed_parts names i j [] = []
placed_parts names i j (piece.atom a ∷ ps) =
    record { place = record { disjunct = i; part = j }; formula = atom_formula names a }
    ∷ placed_parts names i (j + 1) ps
placed_parts names i j (piece.temporal operator operand ∷ ps) = placed_parts names i (j + 1) ps

-- those of the parts of these disjuncts, the first of which is disjunct i
abbrev pub placed : Names → ℕ → List (List Piece) → List PlacedPart
placed names i [] = []
placed names i (d ∷ ds) = placed_parts names i 1 d ++ placed names (i + 1) ds

-- the places are those of the parts that hold at no consistent cut, each alone, in their order
abbrev pub AreNowhere : Run → List PlacedPart → List PartPlace → Type 0
AreNowhere r [] [] = ⊤
AreNowhere r [] (p ∷ ps) = ⊥
AreNowhere r (f ∷ fs) [] = Holds r (Can f.formula) × AreNowhere r fs []
AreNowhere r (f ∷ fs) (p ∷ ps) =
    (Holds r (Never f.formula) × (p ≡ f.place) × AreNowhere r fs ps)
    ⊎ (Holds r (Can f.formula) × AreNowhere r fs (p ∷ ps))

-- ---- the outcome

-- the outcome of a question of this form, of which these are its own parts
pub record IsOutcome (r : Run) (names : Names) (form : Form) (own : List (List Piece)) (o : Outcome)
    : Type 0 where
  -- whether the question holds
  pub holds : IsTrue o.holds ↔ IsAnsweredBy r names form own
  -- the witnesses against it, where it doesn't
  pub witnesses : MatchBool o.holds (o.witnesses ≡ [])
      (AreAgainst r form (part_formulas names (asked_disjuncts form own)) o.witnesses)
  -- the parts without an operator that hold nowhere, where the answer alone says nothing
  pub nowhere : MatchBool (tells_nothing form o.holds)
      (AreNowhere r (placed names 1 own) o.nowhere) (o.nowhere ≡ [])
