-- The words of the forms at the front of a text.
--
-- A word goes as far as letters, digits and `_` go. The words `never`, `can`, `always` and
-- `surely`, and the two words `at end`, are those of a form, but where a `.` or an `@` is behind
-- the first one, with blanks before it or without: then it is a process's name, with which a
-- formula begins. No formula begins with `at` in another way, so `at` has to have `end` behind it.
use Rattle.std.specs.Prelude.{ℕ, ◌+◌, Bool, false, ◌||◌, ◌==◌, List, [], ◌∷◌, take, drop}
use Rattle.std.specs.Prelude.{codes, if◌then◌else◌}
use Rattle.std.specs.Str.{bytes_eq}
use Rattle.pota_names.specs.Names.{is_name_byte}
use Rattle.question_text.specs.Bytes.{is_blank, run_of}
use Rattle.question_text.specs.declared.front.Asking.{Asking}
use Rattle.question_text.specs.declared.front.Asking.TheVariants as asking
use Rattle.question_text.specs.declared.front.Front.{Front}
use Rattle.question_text.specs.declared.front.Front.TheVariants as front

-- the first word, empty where none begins
abbrev pub first_word : List ℕ → List ℕ
first_word text = take (run_of is_name_byte text) text

-- where the first byte behind the first word and the blanks there is
abbrev pub behind_word : List ℕ → ℕ
behind_word text =
    run_of is_name_byte text + run_of is_blank (drop (run_of is_name_byte text) text)

-- a `.` or an `@`
abbrev pub names_process : List ℕ → Bool
names_process [] = false
names_process (b ∷ rest) = b == 46 || b == 64

-- the form of one word
unfoldable pub of_word : List ℕ → Asking
of_word w =
    if bytes_eq w (codes "never") then asking.Never
    else if bytes_eq w (codes "can") then asking.Can
    else if bytes_eq w (codes "always") then asking.Always
    else if bytes_eq w (codes "surely") then asking.Surely
    else asking.Plain

-- the words of that form, where it has any
abbrev pub words_of : Asking → ℕ → Front
words_of asking.Never from = front.Words asking.Never from
words_of asking.Can from = front.Words asking.Can from
words_of asking.Always from = front.Words asking.Always from
words_of asking.Surely from = front.Words asking.Surely from
words_of asking.AtEnd from = front.Words asking.AtEnd from
words_of asking.Plain from = front.NoWords

-- behind `at`, from that byte on
abbrev pub at_end : List ℕ → ℕ → Front
at_end text from =
    if bytes_eq (first_word (drop from text)) (codes "end")
    then front.Words asking.AtEnd (from + behind_word (drop from text))
    else front.NoEnd from

-- what the text begins with
unfoldable pub front_of : List ℕ → Front
front_of text =
    if names_process (drop (behind_word text) text) then front.NoWords
    else if bytes_eq (first_word text) (codes "at") then at_end text (behind_word text)
    else words_of (of_word (first_word text)) (behind_word text)
