-- The asked parts spell what is asked of the formulas of the parts.
use Rattle.std.proofs.Common.{◌≡◌, ◌↔◌, Bool, true, false, MatchBool, List, [], ◌∷◌, ◌++◌, map, sym, ap, subst, refl}
use Rattle.run_model.specs.Cut.{initial}
use Rattle.run_model.specs.Run.{Run}
use Rattle.run_model.specs.Consistent.{IsOrder}
use Rattle.run_model.specs.Formula.{Formula, Nil, Cons, And, Temporal, Ef, Ag, Eg}
use Rattle.run_model.specs.Meaning.{Sat}
use Rattle.run_model.specs.Class.{SatDisjuncts}
use Rattle.question_meaning.specs.declared.form.Form.{Form}
use Rattle.question_meaning.specs.declared.form.Form.TheVariants as form
use Rattle.question_meaning.specs.Question.{Holds}
use Rattle.question_meaning.specs.Asking.{members, asked, asked_parts, asked_formula, is_turned, question, MeanAt, AreFor}
use Rattle.question_meaning.proofs.Answers.{answered}
use Rattle.rctl_parts.specs.Pieces.{Piece, pieces}
use Rattle.rctl_parts.specs.Spelled.{Names, formula_of, formulas_of, disjunction_of, part_formulas}
use Rattle.rctl_parts.proofs.Spelling.{disjuncts_spelled, spelled_disjuncts}
use Rattle.asked_parts.specs.Asked.{asked_pieces, asked_disjuncts, SpellAt, IsAnsweredBy}

pub operand-members : (names : Names) (ps : List Piece) → formulas_of names (pieces ps) ≡ members (map (formula_of names) ps)
operand-members names [] = refl
operand-members names (p ∷ ps) = ap (Cons (formula_of names p)) (operand-members names ps)

parts-asked : (names : Names) (form : Form) (ps : List Piece) → map (formula_of names) (asked_pieces form ps) ≡ asked_parts form (map (formula_of names) ps)
parts-asked names form.Never ps = ap (λ fs. Temporal Ef (And fs) ∷ []) (operand-members names ps)
parts-asked names form.Can ps = ap (λ fs. Temporal Ef (And fs) ∷ []) (operand-members names ps)
parts-asked names form.Always ps = ap (λ fs. Temporal Ag (And fs) ∷ []) (operand-members names ps)
parts-asked names form.AlwaysByNegation ps = ap (λ fs. Temporal Ef (And fs) ∷ []) (operand-members names ps)
parts-asked names form.Surely ps = ap (λ fs. Temporal Eg (And fs) ∷ []) (operand-members names ps)
parts-asked names form.AtEnd ps = ap (λ fs. Temporal Ag (And (Cons (Temporal Ef (And fs)) Nil)) ∷ []) (operand-members names ps)
parts-asked names form.Plain ps = refl

pub disjuncts-asked : (names : Names) (form : Form) (ds : List (List Piece)) → part_formulas names (asked_disjuncts form ds) ≡ asked form (part_formulas names ds)
disjuncts-asked names form [] = refl
disjuncts-asked names form (d ∷ ds) = rw (parts-asked names form d, disjuncts-asked names form ds) refl

-- ---- the answer

turned_alike : (b : Bool) (P Q : Type 0) → P ↔ Q → MatchBool b (P → ⊥) P ↔ MatchBool b (Q → ⊥) Q
turned_alike true P Q same = (λ h q. h (same.1 q), λ h p. h (same.0 p))
turned_alike false P Q same = same

pub answered_by_parts : (r : Run) → IsOrder r.clocks → (names : Names) (form : Form) (f : Formula) (ds : List (List Piece)) → SpellAt r names ds (asked_formula form f) → AreFor form (part_formulas names ds) →
    Holds r (question form f) ↔ IsAnsweredBy r names form ds
answered_by_parts r order names form f ds same one =
    let c = initial r.clocks in
    let fs = part_formulas names ds in
    let mean : MeanAt r fs (asked_formula form f) = λ x k. (
      λ h. (same x k).0 (disjuncts_spelled r names ds x h),
      λ h. spelled_disjuncts r names ds x ((same x k).1 h),
    ) in
    let by = answered r order form f fs mean one in
    let P : List (List Formula) → Type 0 = λ gs. SatDisjuncts r gs c in
    let alike = turned_alike (is_turned form) (SatDisjuncts r (asked form fs) c) (Sat r (disjunction_of names (asked_disjuncts form ds)) c) (
      λ h. disjuncts_spelled r names (asked_disjuncts form ds) c (subst P (sym (disjuncts-asked names form ds)) h),
      λ h. subst P (disjuncts-asked names form ds) (spelled_disjuncts r names (asked_disjuncts form ds) c h),
    ) in
    (λ h. alike.0 (by.0 h), λ h. by.1 (alike.1 h))

-- ---- one disjunct more
