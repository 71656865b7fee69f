-- What a form asks of parts with numbers.
use Rattle.std.specs.Prelude.{◌↔◌, ℕ, MatchBool, List, [], ◌∷◌, map}
use Rattle.run_model.specs.Cut.{Cut, initial}
use Rattle.run_model.specs.Run.{Run}
use Rattle.run_model.specs.Consistent.{IsConsistent}
use Rattle.run_model.specs.Formula.{Formula}
use Rattle.run_model.specs.Meaning.{Sat}
use Rattle.question_meaning.specs.Asking.{is_turned}
use Rattle.question_meaning.specs.declared.form.Form.{Form}
use Rattle.question_meaning.specs.declared.form.Form.TheVariants as form
use Rattle.rctl_grammar.specs.declared.tree.Operator.{Operator}
use Rattle.rctl_grammar.specs.declared.tree.Operator.TheVariants as operator
use Rattle.rctl_parts.specs.Pieces as piece
use Rattle.rctl_parts.specs.Pieces.{Piece}
use Rattle.rctl_parts.specs.Spelled.{Names, disjunction_of}

-- the operator over the conjunction of the parts
abbrev pub over : Operator → List Piece → Piece
over operator ps = piece.temporal operator (piece.pieces ps)

-- what is asked of the parts of one disjunct
abbrev pub asked_pieces : Form → List Piece → List Piece
asked_pieces form.Never ps = over operator.Ef ps ∷ []
asked_pieces form.Can ps = over operator.Ef ps ∷ []
asked_pieces form.Always ps = over operator.Ag ps ∷ []
asked_pieces form.AlwaysByNegation ps = over operator.Ef ps ∷ []
asked_pieces form.Surely ps = over operator.Eg ps ∷ []
asked_pieces form.AtEnd ps = over operator.Ag (over operator.Ef ps ∷ []) ∷ []
asked_pieces form.Plain ps = ps

-- of each disjunct
abbrev pub asked_disjuncts : Form → List (List Piece) → List (List Piece)
asked_disjuncts form ds = map (asked_pieces form) ds

-- how many parts the form adds to a disjunct: its operators
abbrev pub parts_added : Form → ℕ
parts_added form.Never = 1
parts_added form.Can = 1
parts_added form.Always = 1
parts_added form.AlwaysByNegation = 1
parts_added form.Surely = 1
parts_added form.AtEnd = 2
parts_added form.Plain = 0

-- ---- the answer

-- the parts spell the formula: at each consistent cut they are as true as it is
abbrev pub SpellAt : Run → Names → List (List Piece) → Formula → Type 0
SpellAt r names ds f =
    (c : Cut) → IsConsistent r.clocks c → Sat r (disjunction_of names ds) c ↔ Sat r f c

-- the answer: the asked parts are true at the initial cut, or false where the form turns it
abbrev pub IsAnsweredBy : Run → Names → Form → List (List Piece) → Type 0
IsAnsweredBy r names form ds =
    MatchBool (is_turned form)
    (Sat r (disjunction_of names (asked_disjuncts form ds)) (initial r.clocks) → ⊥)
    (Sat r (disjunction_of names (asked_disjuncts form ds)) (initial r.clocks))
