-- The whole document: the rows of questions of both kinds.
use Rattle.std.specs.Prelude.{ℕ, ◌+◌, List, [], ◌∷◌, ◌++◌, length}
use Rattle.event_log.specs.States.{StatesView}
use Rattle.ask_text.specs.OverText.{OverView, over_line, over_rows}
use Rattle.ask_text.specs.Text.{QuestionView, head_lines, question_rows, result_line}

-- a question of the log, or one over processes
pub data EntryView : Type 0 where
  one : (q : QuestionView) → EntryView
  over : (o : OverView) → EntryView

-- its text as it was asked
abbrev pub text_of : EntryView → List ℕ
text_of (one q) = q.text
text_of (over o) = o.text

abbrev pub entry_line : ℕ → EntryView → List ℕ
entry_line number (one q) = result_line number q
entry_line number (over o) = over_line number o

abbrev pub entry_rows : StatesView → ℕ → ℕ → EntryView → List ℕ
entry_rows s steps number (one q) = question_rows s steps number q
entry_rows s steps number (over o) = over_rows s steps number o

-- the rows of questions, the first of which has this number
abbrev pub all_rows : StatesView → ℕ → ℕ → List EntryView → List ℕ
all_rows s steps number [] = []
all_rows s steps number (e ∷ es) =
    entry_rows s steps number e ++ all_rows s steps (number + 1) es

-- what is written of questions that were asked of a run, with so many last steps of each process
abbrev pub document : StatesView → ℕ → List EntryView → List ℕ
document s steps es = head_lines (length es) ++ all_rows s steps 1 es

-- ---- what a reader of the protocol sees of it

-- the lines of the questions alone, the first of which has this number
abbrev pub result_lines : ℕ → List EntryView → List ℕ
result_lines number [] = []
result_lines number (e ∷ es) = entry_line number e ++ result_lines (number + 1) es
