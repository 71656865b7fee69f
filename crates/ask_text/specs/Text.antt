-- What is written of questions that were asked of a run: a document of the Test Anything Protocol,
-- version 14, with a test for each question. Below a question that doesn't hold stands what was
-- found against it, as a block in YAML, and below an answer that says nothing of the run a comment
-- on each part that holds nowhere.
use Rattle.std.specs.Prelude.{ℕ, ◌-◌, ◌≤◌, ◌==◌, Bool, true, false, List, [], ◌∷◌, ◌++◌}
use Rattle.std.specs.Prelude.{length, drop, map, codes, Option, None, Some, slice_get}
use Rattle.std.specs.Prelude.{slice_index_or, if◌then◌else◌}
use Rattle.std.specs.List.{AllByRecursion, flat_map}
use Rattle.std.specs.Fmt.{decimal}
use Rattle.run_model.specs.Cut.{Cut, count}
use Rattle.question_meaning.specs.declared.form.Form.{Form}
use Rattle.question_meaning.specs.declared.form.Form.TheVariants as form
use Rattle.pota_base.specs.Limits.{longest_lexed}
use Rattle.event_log.specs.States.{StatesView}
use Rattle.rctl_grammar.specs.declared.token.Token.{Token}
use Rattle.rctl_lexer.specs.Lexing.{lex}
use Rattle.rctl_class.specs.NamedParts.{NamedPiece, disjuncts_of}
use Rattle.part_text.specs.Texts.{part_text}
use Rattle.witness_kinds.specs.declared.Path.{Path}
use Rattle.witness_kinds.specs.declared.Witness.{Witness}
use Rattle.witness_kinds.specs.declared.Witness.TheVariants as witness
use Rattle.report_lines.specs.declared.kinds.WitnessText.{WitnessText}
use Rattle.report_lines.specs.Spelling.{WitnessFits}
use Rattle.question_outcome.specs.declared.outcome.Outcome.{Outcome}
use Rattle.question_outcome.specs.declared.outcome.PartPlace.{PartPlace}
use Rattle.view_parts.specs.Each.{each_below}
use Rattle.view_parts.specs.Parts.{place, place_text}
use Rattle.view_parts.specs.declared.extent.Extent.{Extent}
use Rattle.view_parts.specs.declared.extent.Extent.TheVariants as extent
use Rattle.view_text.specs.Folding.{folded}
use Rattle.view_text.specs.Text.{step_rows, value_rows}
use Rattle.ask_text.specs.declared.question.AskedQuestion.{AskedQuestion}
use Rattle.ask_text.specs.Indented.{indented}

-- ---- questions

-- a question as it was asked, the byte from which on it is the formula, the disjuncts that its form
-- asks, and what it comes to
pub record QuestionView : Type 0 where
  pub text : List ℕ
  pub formula : ℕ
  pub form : Form
  pub disjuncts : List (List NamedPiece)
  pub outcome : Outcome

abbrev pub view_of : AskedQuestion → QuestionView
view_of q = record {
  text = q.text.now;
  formula = q.formula;
  form = q.form;
  disjuncts = disjuncts_of q.disjuncts.now;
  outcome = q.outcome.now;
}

-- the tokens of its formula
abbrev pub formula_tokens : QuestionView → List Token
formula_tokens q = (lex (drop q.formula q.text)).tokens

-- the witness is of events and cuts of a run of these lengths
abbrev pub IsOfRun : Cut → WitnessText → Type 0
IsOfRun lengths w = WitnessFits lengths w.witness

-- a question of at most so many bytes, whose witnesses are of events and cuts of the run
pub record IsOnRun (s : StatesView) (q : QuestionView) : Type 0 where
  pub short : length q.text ≤ longest_lexed
  pub fits : AllByRecursion (IsOfRun (map length s.events)) q.outcome.witnesses

-- ---- its line

abbrev pub result_word : Bool → List ℕ
result_word true = codes "ok "
result_word false = codes "not ok "

-- `ok N - TEXT` where question N holds, and `not ok N - TEXT` where it doesn't
abbrev pub line_of : ℕ → (holds : Bool) → (text : List ℕ) → List ℕ
line_of number holds text = result_word holds ++ decimal number ++ codes " - " ++ text ++ 10 ∷ []

abbrev pub result_line : ℕ → QuestionView → List ℕ
result_line number q = line_of number q.outcome.holds q.text

-- ---- what was found against it

-- the path of a witness that has one
abbrev pub path_of : Witness → Option Path
path_of witness.Nothing = None
path_of (witness.Reach path) = Some path
path_of (witness.Against path) = Some path
path_of (witness.Always path) = Some path
path_of witness.StuckStart = None
path_of witness.StuckFinish = None
path_of (witness.StuckPair first other) = None

-- what a witness of a formula without a form shows
abbrev pub operand_words : Witness → List ℕ
operand_words witness.Nothing = []
operand_words (witness.Reach path) = codes "the operand holds here"
operand_words (witness.Against path) = codes "the operand does not hold here"
operand_words (witness.Always path) = codes "the operand holds at each state on the way here"
operand_words witness.StuckStart = []
operand_words witness.StuckFinish = []
operand_words (witness.StuckPair first other) = []

-- what a witness against a question of this form shows
abbrev pub found_words : Form → Witness → List ℕ
found_words form.Never w = codes "the formula holds here"
found_words form.Can w = codes "the formula holds here"
found_words form.Always w = codes "the formula does not hold here"
found_words form.AlwaysByNegation w = codes "the formula does not hold here"
found_words form.Surely w =
    codes "an order of all events in which the formula holds at no state"
found_words form.AtEnd w = codes "from here on the formula does not hold"
found_words form.Plain w = operand_words w

-- `P 2, Q 3`: how many events of each process a cut has
abbrev pub at_text : StatesView → Cut → List ℕ
at_text s c =
    each_below (length s.header.procs)
    (λ process. (if process == 0 then [] else codes ", ")
    ++ place_text s.header.procs (place process (count c process)))

-- the steps of a path that are shown, and the values at its goal
abbrev pub last_rows : StatesView → List Token → Extent → Path → List ℕ
last_rows s tokens e path = step_rows s tokens e path ++ value_rows s tokens path.goal

-- what stands before them; it begins with no space, since in YAML the first row of a block sets how
-- far in the others are
abbrev pub last_head : List ℕ
last_head = codes "the last steps, each with its line of the log:\n"

-- what a path shows, and where it leads
abbrev pub found_rows : StatesView → Form → Witness → Path → List ℕ
found_rows s form w path =
    codes "found: " ++ found_words form w ++ codes "\nat: " ++ at_text s path.goal
    ++ codes "\nsteps: " ++ decimal (length path.steps)

-- the line with which a block in YAML begins, and the one with which it ends
abbrev pub block_front : List ℕ
block_front = codes "---\n"

abbrev pub block_end : List ℕ
block_end = codes "...\n"

-- a block in YAML with this front
abbrev pub block : (front : List ℕ) → StatesView → List Token → Extent → Form → Witness → Path
    → List ℕ
block front s tokens e form w path =
    front
    ++ folded 0
    (found_rows s form w path ++ codes "\nlast: |\n" ++ indented
    (last_head ++ last_rows s tokens e path))
    ++ block_end

-- the block of a path, where there is one
abbrev pub block_or : (front : List ℕ) → StatesView → List Token → Extent → Form → Witness
    → List ℕ → Option Path → List ℕ
block_or front s tokens e form w otherwise None = otherwise
block_or front s tokens e form w otherwise (Some path) = block front s tokens e form w path

-- that of the first of these witnesses that has a path, and this where none has
unfoldable pub evidence : (front none : List ℕ) → StatesView → List Token → Extent → Form
    → List WitnessText → List ℕ
evidence front none s tokens e form [] = none
evidence front none s tokens e form (w ∷ ws) =
    block_or front s tokens e form w.witness (evidence front none s tokens e form ws)
    (path_of w.witness)

-- ---- parts that hold nowhere

-- the part at a place, both of its numbers from 1
abbrev pub part_at : List (List NamedPiece) → PartPlace → Option NamedPiece
part_at disjuncts p = slice_get (slice_index_or disjuncts (p.disjunct - 1) []) (p.part - 1)

abbrev pub nowhere_line : Option NamedPiece → List ℕ
nowhere_line None = []
nowhere_line (Some part) =
    codes "# " ++ part_text part ++ codes " holds at no state of this log\n"

-- a comment on each part at these places
abbrev pub nowhere_lines : List (List NamedPiece) → List PartPlace → List ℕ
nowhere_lines disjuncts places = flat_map (λ p. nowhere_line (part_at disjuncts p)) places

-- ---- the whole

-- what stands below the line of a question; of the steps of each process so many are shown at most
abbrev pub below : StatesView → ℕ → QuestionView → List ℕ
below s steps q =
    evidence block_front [] s (formula_tokens q) (extent.Last steps) q.form q.outcome.witnesses
    ++ nowhere_lines q.disjuncts q.outcome.nowhere

-- the line of question `number`, and what stands below it
abbrev pub question_rows : StatesView → ℕ → ℕ → QuestionView → List ℕ
question_rows s steps number q = result_line number q ++ indented (below s steps q)

-- the version, and the plan of so many tests
abbrev pub head_lines : ℕ → List ℕ
head_lines questions = codes "TAP version 14\n1.." ++ decimal questions ++ 10 ∷ []
