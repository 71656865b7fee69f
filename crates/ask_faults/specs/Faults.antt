-- Why there is no answer: the status of each fault, and the lines that tell of it.
use Rattle.std.specs.Prelude.{ℕ, ◌-◌, Bool, true, false, List, [], ◌++◌, codes, drop}
use Rattle.std.specs.Prelude.{slice_get, unwrap_or}
use Rattle.log_lines.specs.Reading.{choose}
use Rattle.ask_words.specs.Asking.{asked_by}
use Rattle.ask_faults.specs.declared.fault.Fault.{Fault}
use Rattle.ask_faults.specs.declared.fault.Fault.TheVariants as fault
use Rattle.ask_faults.specs.Lines.{help, numbered_lines, refusal_lines, stop_lines}
use Rattle.ask_faults.specs.Lines.{unknown_lines}

-- the exit status of a fault
abbrev pub status_of : Fault → ℕ
status_of fault.Usage = 2
status_of (fault.Question f) = 3
status_of (fault.Unknown u) = 3
status_of (fault.Over f) = 3
status_of (fault.Refused r line) = 4
status_of fault.Read = 5
status_of fault.Write = 6
status_of fault.Memory = 7

-- ---- what is told

-- the questions of the words, and none where they are refused
abbrev pub question_texts : (words : List (List ℕ)) → List (List ℕ)
question_texts words = choose (asked_by words) (λ asked. drop asked.questions_from words) []

-- the question of this number, from 1; it is empty where there is none
abbrev pub text_at : (texts : List (List ℕ)) → (question : ℕ) → List ℕ
text_at texts question = unwrap_or (slice_get texts (question - 1)) []

abbrev pub usage_text : List ℕ
usage_text =
    codes "pota_ask: usage: pota_ask [--merged | --vclog] [--steps N] QUESTION..\n"
    ++ help (codes "options first, each once, then 1 to 64 questions")
    (codes "pota_ask 'never a.cs = 1 & b.cs = 1' < run.log")

-- a fault of fixed lines
abbrev pub short_line : Fault → List ℕ
short_line fault.Usage = usage_text
short_line (fault.Question f) = []
short_line (fault.Unknown u) = []
short_line (fault.Over f) = []
short_line (fault.Refused r line) = []
short_line fault.Read = codes "pota_ask: read fault\n"
short_line fault.Write = codes "pota_ask: write fault\n"
short_line fault.Memory = codes "pota_ask: out of memory\n"

-- a fault whose lines say where it is
abbrev pub long_lines : (words : List (List ℕ)) → Fault → List ℕ
long_lines words fault.Usage = []
long_lines words (fault.Question f) =
    numbered_lines (text_at (question_texts words) f.question) f
long_lines words (fault.Unknown u) =
    unknown_lines (text_at (question_texts words) u.question) u
long_lines words (fault.Over f) = stop_lines f
long_lines words (fault.Refused r line) = refusal_lines r line
long_lines words fault.Read = []
long_lines words fault.Write = []
long_lines words fault.Memory = []

abbrev pub is_long : Fault → Bool
is_long fault.Usage = false
is_long (fault.Question f) = true
is_long (fault.Unknown u) = true
is_long (fault.Over f) = true
is_long (fault.Refused r line) = true
is_long fault.Read = false
is_long fault.Write = false
is_long fault.Memory = false

abbrev pub lines_of : (words : List (List ℕ)) → Fault → List ℕ
lines_of words f = short_line f ++ long_lines words f
