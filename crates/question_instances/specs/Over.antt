-- The names that stand for processes: `[NAME:] for P [Q]: ..`, with blanks wherever one of them
-- begins or ends.
--
-- The word `for` is that of a question over processes at the front of the text, or behind its first
-- colon, but where a `.` or an `@` is behind it: then it is a process's name, with which a formula
-- begins.
use Rattle.std.specs.Prelude.{ℕ, ◌+◌, ◌≤◌, Bool, false, not, ◌&&◌, ◌==◌, nat_lt, List, [], ◌∷◌}
use Rattle.std.specs.Prelude.{drop, length, Option, None, Some, IfSome, Result, Ok, Err, codes}
use Rattle.std.specs.Prelude.{if◌then◌else◌}
use Rattle.std.specs.Str.{bytes_eq}
use Rattle.pota_base.specs.Limits.{longest_question}
use Rattle.pota_names.specs.Names.{is_name_byte, is_name_start}
use Rattle.question_text.specs.Bytes.{is_blank, is_no_colon, run_of}
use Rattle.question_text.specs.Forms.{behind_word, first_word, names_process}
use Rattle.question_text.specs.declared.head.Span.{Span}
use Rattle.question_instances.specs.declared.over.Over.{Over}
use Rattle.question_instances.specs.declared.over.OverCode.{OverCode}
use Rattle.question_instances.specs.declared.over.OverCode.TheVariants as code
use Rattle.question_instances.specs.declared.over.OverFault.{OverFault}

-- the fault of this code at this place
abbrev pub fault_at : OverCode → ℕ → OverFault
fault_at code place = record { code = code; place = place }

-- ---- places

-- where the first byte from a place on is that is no blank
abbrev pub past_blanks : ℕ → List ℕ → ℕ
past_blanks at text = at + run_of is_blank (drop at text)

-- where the first byte behind the word at a place and the blanks there is
abbrev pub past_word : ℕ → List ℕ → ℕ
past_word at text = at + behind_word (drop at text)

-- the word at a place, empty where none is there
abbrev pub word_at : ℕ → List ℕ → List ℕ
word_at at text = first_word (drop at text)

-- where that word is
abbrev pub span_at : ℕ → List ℕ → Span
span_at at text = record { from = at; to = at + run_of is_name_byte (drop at text) }

-- the byte is the first one of these
abbrev pub is_first : ℕ → List ℕ → Bool
is_first byte [] = false
is_first byte (b ∷ rest) = b == byte

-- the byte is at that place
abbrev pub is_at : ℕ → ℕ → List ℕ → Bool
is_at byte at text = is_first byte (drop at text)

-- the word begins as a name does
abbrev pub begins_name : List ℕ → Bool
begins_name [] = false
begins_name (b ∷ rest) = is_name_start b

abbrev pub is_empty : List ℕ → Bool
is_empty word = length word == 0

-- ---- the words

-- the word `for` is at a place, and is no process's name
abbrev pub begins_over : ℕ → List ℕ → Bool
begins_over at text =
    bytes_eq (word_at at text) (codes "for") && not (names_process (drop (past_word at text) text))

-- behind the names, where a colon has to be
abbrev pub closed_at : (from end : ℕ) → Span → Option Span → List ℕ → Result Over OverFault
closed_at from end first second text =
    if is_at 58 end text
    then Ok (record { from = from; first = first; second = second; to = end + 1 })
    else Err (fault_at code.NoColon end)

-- behind the first name, where a second one may be
abbrev pub with_first : (from name at : ℕ) → List ℕ → Result Over OverFault
with_first from name at text =
    if is_empty (word_at at text) then closed_at from at (span_at name text) None text
    else if not (begins_name (word_at at text)) then Err (fault_at code.NoName at)
    else if bytes_eq (word_at at text) (word_at name text) then Err (fault_at code.SameName at)
    else closed_at from (past_word at text) (span_at name text) (Some (span_at at text)) text

-- behind the word `for`, which is at a place
abbrev pub over_at : ℕ → List ℕ → Result Over OverFault
over_at from text =
    let at = past_word from text in
    if not (begins_name (word_at at text)) then Err (fault_at code.NoName at)
    else with_first from at (past_word at text) text

abbrev pub found : Result Over OverFault → Result (Option Over) OverFault
found (Ok over) = Ok (Some over)
found (Err fault) = Err fault

-- behind the first colon
abbrev pub over_behind : ℕ → List ℕ → Result (Option Over) OverFault
over_behind at text = if begins_over at text then found (over_at at text) else Ok None

-- the names that stand for processes, if the text has any
unfoldable pub over_of : List ℕ → Result (Option Over) OverFault
over_of text =
    if nat_lt longest_question (length text) then Ok None
    else if begins_over (past_blanks 0 text) text then found (over_at (past_blanks 0 text) text)
    else if run_of is_no_colon text == length text then Ok None
    else over_behind (past_blanks (run_of is_no_colon text + 1) text) text

-- ---- within a text

-- the bytes are within so many
pub record IsSpanIn (len : ℕ) (span : Span) : Type 0 where
  pub up : span.from ≤ span.to
  pub end : span.to ≤ len

-- all of it is
pub record IsOverIn (len : ℕ) (over : Over) : Type 0 where
  pub from : over.from ≤ len
  pub to : over.to ≤ len
  pub first : IsSpanIn len over.first
  pub second : IfSome over.second (IsSpanIn len)
