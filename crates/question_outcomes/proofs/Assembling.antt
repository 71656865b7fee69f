-- The outcome of a question from what is told of its disjuncts.
use Rattle.std.proofs.Common.{◌≡◌, Bool, true, false, List, [], ◌∷◌, map, refl, sym, ◌∙◌, ap, subst}
use Rattle.std.specs.Prelude.{◌↔◌, not, IsTrue, MatchBool}
use Rattle.std.proofs.lemmas.Bool.{false≢true}
use Rattle.run_model.specs.Cut.{initial}
use Rattle.run_model.specs.Run.{Run}
use Rattle.run_model.specs.Formula.{Formula}
use Rattle.run_model.specs.Meaning.{Sat}
use Rattle.question_meaning.specs.Asking.{is_turned}
use Rattle.question_meaning.specs.declared.form.Form.{Form}
use Rattle.question_meaning.specs.declared.form.Form.TheVariants as form
use Rattle.rctl_parts.specs.Pieces.{Piece}
use Rattle.rctl_parts.specs.Spelled.{disjunction_of, part_formulas}
use Rattle.rctl_parts.proofs.Spelling.{listed-pieces}
use Rattle.asked_parts.specs.Asked.{asked_pieces, asked_disjuncts}
use Rattle.part_pulls.specs.declared.observed.Observed.{Observed}
use Rattle.part_pulls.specs.Observing.{Reading, AreAnswers, clocks_seen, run_seen, names_seen}
use Rattle.report_lines.specs.declared.kinds.WitnessText.{WitnessText}
use Rattle.run_report.specs.Witnesses.{AreTextsOfTrue, AreTextsOfFalse}
use Rattle.answer_report.specs.Told.{AreWitnessesOf}
use Rattle.question_outcome.specs.Outcomes.{AreNowhere, tells_nothing, placed}
use Rattle.question_outcome.specs.declared.outcome.Outcome.{Outcome}
use Rattle.question_outcome.specs.declared.outcome.PartPlace.{PartPlace}
use Rattle.question_outcomes.specs.Telling.{IsOutcomeOf}
use Rattle.question_outcomes.specs.inside.Telling.{IsTold}
use Rattle.question_outcomes.specs.inside.Nowhere.{operand_of, AreNowhereIn}

-- ---- the answer

answered : {S : Type 0} (turned truth holds : Bool) → (turned ≡ true → holds ≡ not truth) → (turned ≡ false → holds ≡ truth) → IsTrue truth ↔ S → IsTrue holds ↔ MatchBool turned (S → ⊥) S
answered true true holds h k t = (λ p. absurd (false≢true (sym (h refl) ∙ p)), λ n. absurd (n (t.0 refl)))
answered true false holds h k t = (λ p s. false≢true (t.1 s), λ n. h refl)
answered false truth holds h k t = (λ p. t.0 (sym (k refl) ∙ p), λ s. k refl ∙ t.1 s)

-- ---- the witnesses

against_it : (r : Run) (fs : List (List Formula)) (turned truth holds : Bool) → (turned ≡ true → holds ≡ not truth) → (turned ≡ false → holds ≡ truth) → (ws out : List WitnessText)
    → AreWitnessesOf r fs truth ws → (holds ≡ true → out ≡ []) → (holds ≡ false → out ≡ ws)
    → MatchBool holds (out ≡ []) (MatchBool turned (AreTextsOfTrue r 1 fs out) (AreTextsOfFalse r 1 fs out))
against_it r fs turned truth true h k ws out told none all = none refl
against_it r fs true true false h k ws out told none all = subst (AreTextsOfTrue r 1 fs) (sym (all refl)) told
against_it r fs true false false h k ws out told none all = absurd (false≢true (h refl))
against_it r fs false false false h k ws out told none all = subst (AreTextsOfFalse r 1 fs) (sym (all refl)) told
against_it r fs false true false h k ws out told none all = absurd (false≢true (k refl))

-- ---- the parts that hold nowhere

operands_back : (f : List Piece → List Piece) → ((ps : List Piece) → operand_of (f ps) ≡ ps) → (own : List (List Piece)) → map operand_of (map f own) ≡ own
operands_back f back [] = refl
operands_back f back (ps ∷ own) = λ i. back ps i ∷ operands_back f back own i

operands_asked : (form : Form) (holds : Bool) → tells_nothing form holds ≡ true → (own : List (List Piece)) → map operand_of (asked_disjuncts form own) ≡ own
operands_asked form.Never holds e own = operands_back (asked_pieces form.Never) listed-pieces own
operands_asked form.Can holds e own = operands_back (asked_pieces form.Can) listed-pieces own
operands_asked form.Always holds e own = absurd (false≢true e)
operands_asked form.AlwaysByNegation holds e own = operands_back (asked_pieces form.AlwaysByNegation) listed-pieces own
operands_asked form.Surely holds e own = absurd (false≢true e)
operands_asked form.AtEnd holds e own = absurd (false≢true e)
operands_asked form.Plain holds e own = absurd (false≢true e)

nowhere_told : (seen : Observed) (ds : List (List Piece)) (places : List PartPlace) (form : Form) (holds b : Bool) → tells_nothing form holds ≡ b
    → (b ≡ true → AreNowhereIn seen ds places) → (b ≡ false → places ≡ []) → (reading : Reading) → AreAnswers seen reading → (own : List (List Piece)) → ds ≡ asked_disjuncts form own
    → MatchBool b (AreNowhere (run_seen seen reading) (placed (names_seen seen reading) 1 own) places) (places ≡ [])
nowhere_told seen ds places form holds true e told none reading are own is =
    let back : map operand_of ds ≡ own = ap (map operand_of) is ∙ operands_asked form holds e own in
    subst (λ (os : List (List Piece)). AreNowhere (run_seen seen reading) (placed (names_seen seen reading) 1 os) places) back (told refl reading are)
nowhere_told seen ds places form holds false e told none reading are own is = none refl

-- ---- all of it

-- how an outcome is put together
pub record IsPutTogether (seen : Observed) (ds : List (List Piece)) (form : Form) (truth nothing : Bool) (ws : List WitnessText) (o : Outcome) : Type 0 where
  pub told : IsTold seen ds truth ws
  pub turned : is_turned form ≡ true → o.holds ≡ not truth
  pub straight : is_turned form ≡ false → o.holds ≡ truth
  pub none : o.holds ≡ true → o.witnesses ≡ []
  pub all : o.holds ≡ false → o.witnesses ≡ ws
  pub says_nothing : nothing ≡ tells_nothing form o.holds
  pub nowhere : nothing ≡ true → AreNowhereIn seen ds o.nowhere
  pub elsewhere : nothing ≡ false → o.nowhere ≡ []

pub outcome_is : (seen : Observed) (ds : List (List Piece)) (form : Form) (truth nothing : Bool) (ws : List WitnessText) (o : Outcome) → IsPutTogether seen ds form truth nothing ws o → IsOutcomeOf seen ds form o
outcome_is seen ds form truth nothing ws o made = λ reading are own is.
    let r = run_seen seen reading in
    let names = names_seen seen reading in
    let c = initial (clocks_seen seen) in
    let truth_is = subst (λ (es : List (List Piece)). IsTrue truth ↔ Sat r (disjunction_of names es) c) is (made.told.truth_is reading are) in
    let witnesses = subst (λ (es : List (List Piece)). AreWitnessesOf r (part_formulas names es) truth ws) is (made.told.witnesses reading are) in
    record {
      holds = answered (is_turned form) truth o.holds made.turned made.straight truth_is;
      witnesses = against_it r (part_formulas names (asked_disjuncts form own)) (is_turned form) truth o.holds made.turned made.straight ws o.witnesses witnesses made.none made.all;
      nowhere = nowhere_told seen ds o.nowhere form o.holds (tells_nothing form o.holds) refl
          (λ e. made.nowhere (made.says_nothing ∙ e)) (λ e. made.elsewhere (made.says_nothing ∙ e)) reading are own is;
    }
