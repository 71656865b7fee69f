-- How a question is asked: of which formula, by which operators over its disjuncts, and whether it
-- holds where the answer is true or where it is false.
use Rattle.std.specs.Prelude.{◌≡◌, ◌↔◌, Bool, true, false, MatchBool, ⊤, List, [], ◌∷◌, map, length}
use Rattle.run_model.specs.Cut.{Cut, initial}
use Rattle.run_model.specs.Run.{Run}
use Rattle.run_model.specs.Consistent.{IsConsistent}
use Rattle.run_model.specs.Formula.{Operator, Ef, Ag, Eg, Formula, Not, And, Temporal, Formulas}
use Rattle.run_model.specs.Formula.{Nil, Cons}
use Rattle.run_model.specs.Meaning.{Sat}
use Rattle.run_model.specs.Class.{SatDisjuncts}
use Rattle.question_meaning.specs.declared.form.Form.{Form}
use Rattle.question_meaning.specs.declared.form.Form.TheVariants as form
use Rattle.question_meaning.specs.Question.{Question, Never, Can, Always, Surely, AtEnd, Plain}

-- the question of this form
abbrev pub question : Form → Formula → Question
question form.Never f = Never f
question form.Can f = Can f
question form.Always f = Always f
question form.AlwaysByNegation f = Always f
question form.Surely f = Surely f
question form.AtEnd f = AtEnd f
question form.Plain f = Plain f

-- the formula whose disjuncts are asked: the question's own, or its negation
abbrev pub asked_formula : Form → Formula → Formula
asked_formula form.Never f = f
asked_formula form.Can f = f
asked_formula form.Always f = f
asked_formula form.AlwaysByNegation f = Not f
asked_formula form.Surely f = Not f
asked_formula form.AtEnd f = f
asked_formula form.Plain f = f

-- the question holds where what is asked is false
abbrev pub is_turned : Form → Bool
is_turned form.Never = true
is_turned form.Can = false
is_turned form.Always = false
is_turned form.AlwaysByNegation = true
is_turned form.Surely = true
is_turned form.AtEnd = false
is_turned form.Plain = false

-- some of the forms ask of a formula with one disjunct, which is a regular one
abbrev pub is_of_one : Form → Bool
is_of_one form.Never = false
is_of_one form.Can = false
is_of_one form.Always = true
is_of_one form.AlwaysByNegation = false
is_of_one form.Surely = true
is_of_one form.AtEnd = true
is_of_one form.Plain = false

abbrev pub members : List Formula → Formulas
members [] = Nil
members (f ∷ fs) = Cons f (members fs)

-- the operator over the conjunction of the parts
abbrev pub over : Operator → List Formula → Formula
over operator fs = Temporal operator (And (members fs))

-- what is asked of the parts of one disjunct
abbrev pub asked_parts : Form → List Formula → List Formula
asked_parts form.Never fs = over Ef fs ∷ []
asked_parts form.Can fs = over Ef fs ∷ []
asked_parts form.Always fs = over Ag fs ∷ []
asked_parts form.AlwaysByNegation fs = over Ef fs ∷ []
asked_parts form.Surely fs = over Eg fs ∷ []
asked_parts form.AtEnd fs = over Ag (over Ef fs ∷ []) ∷ []
asked_parts form.Plain fs = fs

-- what is asked, disjunct by disjunct
abbrev pub asked : Form → List (List Formula) → List (List Formula)
asked form ds = map (asked_parts form) ds

-- the disjuncts are those of the formula: at each consistent cut it is true exactly where some of
-- them has all its parts true
abbrev pub MeanAt : Run → List (List Formula) → Formula → Type 0
MeanAt r ds f = (c : Cut) → IsConsistent r.clocks c → SatDisjuncts r ds c ↔ Sat r f c

-- there is one disjunct, where the form asks of one
abbrev pub AreFor : Form → List (List Formula) → Type 0
AreFor form ds = MatchBool (is_of_one form) (length ds ≡ 1) ⊤

-- the answer: what is asked is true at the initial cut, or false where the form turns it
abbrev pub IsAnswered : Run → Form → List (List Formula) → Type 0
IsAnswered r form ds =
    MatchBool (is_turned form) (SatDisjuncts r (asked form ds) (initial r.clocks) → ⊥)
    (SatDisjuncts r (asked form ds) (initial r.clocks))
