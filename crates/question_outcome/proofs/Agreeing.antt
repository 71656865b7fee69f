-- Two outcomes of one question agree.
use Rattle.std.proofs.Common.{◌≡◌, ◌↔◌, Bool, true, false, IsTrue, MatchBool, List, [], ◌∷◌, sym, ◌∙◌, refl, inl, inr, subst}
use Rattle.std.proofs.lemmas.Bool.{false≢true}
use Rattle.run_model.specs.Run.{Run}
use Rattle.run_model.specs.Formula.{Formula}
use Rattle.question_meaning.specs.Question.{Holds, Never, Can}
use Rattle.question_meaning.specs.declared.form.Form.{Form}
use Rattle.rctl_parts.specs.Pieces.{Piece}
use Rattle.rctl_parts.specs.Spelled.{Names}
use Rattle.question_outcome.specs.declared.outcome.Outcome.{Outcome}
use Rattle.question_outcome.specs.declared.outcome.PartPlace.{PartPlace}
use Rattle.question_outcome.specs.Outcomes.{PlacedPart, placed, tells_nothing, AreNowhere, IsOutcome}

one_answer : {S : Type 0} (a b : Bool) → IsTrue a ↔ S → IsTrue b ↔ S → a ≡ b
one_answer true true h k = refl
one_answer false false h k = refl
one_answer true false h k = absurd (false≢true (k.1 (h.0 refl)))
one_answer false true h k = absurd (false≢true (h.1 (k.0 refl)))

-- no part holds somewhere and nowhere
clash : (r : Run) (f : Formula) → Holds r (Can f) → Holds r (Never f) → ⊥
clash r f can never = never can.0 can.1 can.2

one_list : (r : Run) (fs : List PlacedPart) (ps qs : List PartPlace) → AreNowhere r fs ps → AreNowhere r fs qs → ps ≡ qs
one_list r [] [] [] h k = refl
one_list r [] [] (q ∷ qs) h k = absurd k
one_list r [] (p ∷ ps) qs h k = absurd h
one_list r (f ∷ fs) [] [] h k = refl
one_list r (f ∷ fs) [] (q ∷ qs) h (inl k) = absurd (clash r f.formula h.0 k.0)
one_list r (f ∷ fs) [] (q ∷ qs) h (inr k) = one_list r fs [] (q ∷ qs) h.1 k.1
one_list r (f ∷ fs) (p ∷ ps) [] (inl h) k = absurd (clash r f.formula k.0 h.0)
one_list r (f ∷ fs) (p ∷ ps) [] (inr h) k = one_list r fs (p ∷ ps) [] h.1 k.1
one_list r (f ∷ fs) (p ∷ ps) (q ∷ qs) (inl h) (inl k) =
    let first = h.1 ∙ sym k.1 in
    let rest = one_list r fs ps qs h.2 k.2 in
    λ i. first i ∷ rest i
one_list r (f ∷ fs) (p ∷ ps) (q ∷ qs) (inl h) (inr k) = absurd (clash r f.formula k.0 h.0)
one_list r (f ∷ fs) (p ∷ ps) (q ∷ qs) (inr h) (inl k) = absurd (clash r f.formula h.0 k.0)
one_list r (f ∷ fs) (p ∷ ps) (q ∷ qs) (inr h) (inr k) = one_list r fs (p ∷ ps) (q ∷ qs) h.1 k.1

one_choice : (b : Bool) (r : Run) (fs : List PlacedPart) (ps qs : List PartPlace)
    → MatchBool b (AreNowhere r fs ps) (ps ≡ []) → MatchBool b (AreNowhere r fs qs) (qs ≡ []) → ps ≡ qs
one_choice true r fs ps qs h k = one_list r fs ps qs h k
one_choice false r fs ps qs h k = h ∙ sym k

pub same_answer : (r : Run) (names : Names) (form : Form) (own : List (List Piece)) (a b : Outcome)
    → IsOutcome r names form own a → IsOutcome r names form own b → a.holds ≡ b.holds
same_answer r names form own a b h k = one_answer a.holds b.holds h.holds k.holds

pub same_places : (r : Run) (names : Names) (form : Form) (own : List (List Piece)) (a b : Outcome)
    → IsOutcome r names form own a → IsOutcome r names form own b → a.nowhere ≡ b.nowhere
same_places r names form own a b h k =
    let fs = placed names 1 own in
    let P : Bool → Type 0 = λ v. MatchBool (tells_nothing form v) (AreNowhere r fs b.nowhere) (b.nowhere ≡ []) in
    one_choice (tells_nothing form a.holds) r fs a.nowhere b.nowhere h.nowhere
    (subst P (sym (same_answer r names form own a b h k)) k.nowhere)
