-- The head of a question: `[NAME:] [WORDS] FORMULA`, with blanks wherever one of them begins or
-- ends.
--
-- Up to the first colon is the name, where there is a colon: a formula has none. The name goes from
-- its first byte that is no blank to its last one. It may not be what a form begins with and
-- nothing behind it, nor begin with the word `for`: who writes so means no name.
use Rattle.std.specs.Prelude.{ℕ, ◌+◌, Bool, false, ◌||◌, ◌==◌, nat_lt, List, take, drop, length}
use Rattle.std.specs.Prelude.{Option, None, Some, Result, Ok, Err, codes, if◌then◌else◌}
use Rattle.std.specs.Str.{bytes_eq}
use Rattle.pota_base.specs.Limits.{longest_question}
use Rattle.question_text.specs.Bytes.{is_blank, is_no_colon, is_title_byte, run_of, end_of_words}
use Rattle.question_text.specs.Forms.{first_word, front_of}
use Rattle.question_text.specs.declared.front.Asking.TheVariants as asking
use Rattle.question_text.specs.declared.front.Front.{Front}
use Rattle.question_text.specs.declared.front.Front.TheVariants as front
use Rattle.question_text.specs.declared.head.Span.{Span}
use Rattle.question_text.specs.declared.head.Head.{Head}
use Rattle.question_text.specs.declared.head.HeadCode.{HeadCode}
use Rattle.question_text.specs.declared.head.HeadCode.TheVariants as code
use Rattle.question_text.specs.declared.head.HeadFault.{HeadFault}

-- the fault of this code at this place
abbrev pub fault_at : HeadCode → ℕ → HeadFault
fault_at code place = record { code = code; place = place }

-- ---- the name

-- the words of a form, and nothing behind them
abbrev pub is_form : Front → ℕ → Bool
is_form (front.Words asking from) len = from == len
is_form front.NoWords len = false
is_form (front.NoEnd at) len = false

-- no name: a form without a formula, or `for`
abbrev pub is_taken : List ℕ → Bool
is_taken title =
    is_form (front_of title) (length title) || bytes_eq (first_word title) (codes "for")

-- a name that begins at this byte, or its first fault
abbrev pub title_at : ℕ → List ℕ → Result Span HeadFault
title_at from title =
    if is_taken title then Err (fault_at code.WordsAsName from)
    else if nat_lt (run_of is_title_byte title) (length title)
    then Err (fault_at code.NameByte (from + run_of is_title_byte title))
    else Ok (record { from = from; to = from + length title })

-- the name in the bytes before a colon
unfoldable pub name_of : List ℕ → Result Span HeadFault
name_of before =
    let from = run_of is_blank before in
    let words = drop from before in
    if end_of_words words == 0 then Err (fault_at code.NoName (length before))
    else title_at from (take (end_of_words words) words)

-- ---- the form

-- with a front that is at this byte
abbrev pub headed : Option Span → ℕ → Front → Result Head HeadFault
headed name from (front.Words asking behind) =
    Ok (record { name = name; asking = asking; formula = from + behind })
headed name from front.NoWords =
    Ok (record { name = name; asking = asking.Plain; formula = from })
headed name from (front.NoEnd at) = Err (fault_at code.NoEnd (from + at))

-- where the form is looked for from a byte on
abbrev pub form_head : Option Span → ℕ → List ℕ → Result Head HeadFault
form_head name at text =
    let from = at + run_of is_blank (drop at text) in headed name from (front_of (drop from text))

-- ---- the whole

-- behind the name and its colon
abbrev pub with_name : Result Span HeadFault → ℕ → List ℕ → Result Head HeadFault
with_name (Ok span) at text = form_head (Some span) at text
with_name (Err fault) at text = Err fault

-- the head of a question, or its first fault: too long before all others, then those of the name,
-- then that of the form, each where it is
unfoldable pub head_of : List ℕ → Result Head HeadFault
head_of text =
    if nat_lt longest_question (length text) then Err (fault_at code.TooLong longest_question)
    else if run_of is_no_colon text == length text then form_head None 0 text
    else with_name (name_of (take (run_of is_no_colon text) text)) (run_of is_no_colon text + 1)
    text
