-- The lines that tell of a fault: where it is, what was expected, and an example.
use Rattle.std.specs.Prelude.{ℕ, ◌==◌, ◌||◌, nat_lt, List, [], ◌∷◌, ◌++◌, codes, drop, take}
use Rattle.std.specs.Prelude.{map, if◌then◌else◌}
use Rattle.std.specs.Fmt.{decimal}
use Rattle.ask_questions.specs.declared.reading.NumberedFault.{NumberedFault}
use Rattle.ask_questions.specs.declared.reading.QuestionsFault.{QuestionsFault}
use Rattle.ask_questions.specs.declared.reading.QuestionsFault.TheVariants as questions
use Rattle.asked_observation.specs.declared.unknown.UnknownName.{UnknownName}
use Rattle.event_log.specs.declared.item.LogFault.{LogFault}
use Rattle.fault_help.specs.LogHelp.{import_example, import_expected, log_example, log_expected}
use Rattle.fault_help.specs.LogHelp.{merge_example, merge_expected}
use Rattle.fault_kinds.specs.declared.import.ImportFault.{ImportFault}
use Rattle.fault_kinds.specs.declared.merge.MergeFault.{MergeFault}
use Rattle.fault_kinds.specs.declared.refusal.Refusal.{Refusal}
use Rattle.fault_kinds.specs.declared.refusal.Refusal.TheVariants as refusal
use Rattle.fault_line.specs.FaultText.{import_code_text, log_code_text, merge_code_text}
use Rattle.over_answers.specs.declared.answering.NumberedStop.{NumberedStop}
use Rattle.over_questions.specs.Entries.{place_of}
use Rattle.over_questions.specs.declared.entry.EntryFault.{EntryFault}
use Rattle.over_questions.specs.declared.entry.EntryFault.TheVariants as entry
use Rattle.question_forms.specs.declared.question.QuestionFault.TheVariants as fault
use Rattle.ask_faults.specs.Helps.{HelpText, entry_help, many_help, stop_help}

-- a line of the program
abbrev pub line : (label text : List ℕ) → List ℕ
line label text = codes "pota_ask: " ++ label ++ text ++ 10 ∷ []

-- what was expected, and an example
abbrev pub help : (expected example : List ℕ) → List ℕ
help expected example =
    line (codes "expected: ") expected ++ line (codes "for example: ") example

-- ---- of a question

abbrev pub question_front : (question : ℕ) → List ℕ
question_front question = codes "pota_ask: question " ++ decimal question ++ codes ": "

-- a byte as it is shown: a control byte as a space
abbrev pub shown : ℕ → ℕ
shown byte = if nat_lt byte 32 || (byte == 127) then 32 else byte

-- what stands in a question from a byte on, at most 40 bytes of it
abbrev pub there_text : List ℕ → List ℕ
there_text [] = codes "the end of the question"
there_text (b ∷ bs) = map shown (take 40 (b ∷ bs))

abbrev pub there : (text : List ℕ) → (place : ℕ) → List ℕ
there text place = line (codes "there: ") (there_text (drop place text))

-- where it is, and what is wrong
abbrev pub placed : (question : ℕ) → (text : List ℕ) → (place : ℕ) → (wrong : List ℕ) → List ℕ
placed question text place wrong =
    question_front question ++ codes "byte " ++ decimal place ++ codes ": " ++ wrong ++ 10 ∷ []
    ++ there text place

-- of the question of that number, which can't be read
abbrev pub entry_lines : (question : ℕ) → (text : List ℕ) → EntryFault → List ℕ
entry_lines question text f =
    placed question text (place_of f) (entry_help text f).wrong
    ++ help (entry_help text f).expected (entry_help text f).example

-- of all of it
abbrev pub whole_lines : (question : ℕ) → HelpText → List ℕ
whole_lines question h =
    question_front question ++ h.wrong ++ 10 ∷ [] ++ help h.expected h.example

abbrev pub questions_lines : (question : ℕ) → (text : List ℕ) → QuestionsFault → List ℕ
questions_lines question text (questions.Question f) = entry_lines question text f
questions_lines question text questions.TooMany = whole_lines question many_help

abbrev pub numbered_lines : (text : List ℕ) → NumberedFault → List ℕ
numbered_lines text f = questions_lines f.question text f.fault

-- a name that the log does not have
abbrev pub unknown_lines : (text : List ℕ) → UnknownName → List ℕ
unknown_lines text u = entry_lines u.question text (entry.One (fault.Formula u.formula u.fault))

-- a question over processes that has no answer on the log
abbrev pub stop_lines : NumberedStop → List ℕ
stop_lines f = whole_lines f.question (stop_help f.stop)

-- ---- of a log

-- at a line of it
abbrev pub at_line : (number : ℕ) → (wrong : List ℕ) → List ℕ
at_line number wrong =
    codes "pota_ask: log line " ++ decimal number ++ codes ": " ++ wrong ++ 10 ∷ []

-- at a line of one of several logs
abbrev pub at_source : MergeFault → List ℕ
at_source f =
    codes "pota_ask: log source " ++ decimal f.source ++ codes " line " ++ decimal f.line
    ++ codes ": " ++ merge_code_text f.code ++ 10 ∷ []

-- the text of the line, if there is one
abbrev pub line_there : (text : List ℕ) → List ℕ
line_there [] = []
line_there (b ∷ bs) = line (codes "there: ") (map shown (b ∷ bs))

abbrev pub log_lines : LogFault → (text : List ℕ) → List ℕ
log_lines f text =
    at_line f.line (log_code_text f.code) ++ line_there text
    ++ help (log_expected f.code) (log_example f.code)

abbrev pub import_lines : ImportFault → (text : List ℕ) → List ℕ
import_lines f text =
    at_line f.line (import_code_text f.code) ++ line_there text
    ++ help (import_expected f.code) (import_example f.code)

abbrev pub merge_lines : MergeFault → (text : List ℕ) → List ℕ
merge_lines f text =
    at_source f ++ line_there text ++ help (merge_expected f.code) (merge_example f.code)

-- with the text of its line; of a formula nothing is judged with the log
abbrev pub refusal_lines : Refusal → (text : List ℕ) → List ℕ
refusal_lines (refusal.Formula f) text = []
refusal_lines (refusal.Log f) text = log_lines f text
refusal_lines (refusal.Import f) text = import_lines f text
refusal_lines (refusal.Merge f) text = merge_lines f text
