-- Worked by hand: texts and their heads, or first faults.
use Rattle.std.specs.Prelude.{◌≡◌, ℕ, [], ◌∷◌, ◌++◌, replicate, None, Some, Result, Ok}
use Rattle.std.specs.Prelude.{Err, codes, refl}
use Rattle.question_text.specs.Forms.{front_of, of_word}
use Rattle.question_text.specs.Heads.{fault_at, head_of, name_of}
use Rattle.question_text.specs.declared.front.Asking.{Asking}
use Rattle.question_text.specs.declared.front.Asking.TheVariants as asking
use Rattle.question_text.specs.declared.head.Head.{Head}
use Rattle.question_text.specs.declared.head.HeadCode.{HeadCode}
use Rattle.question_text.specs.declared.head.HeadCode.TheVariants as code
use Rattle.question_text.specs.declared.head.HeadFault.{HeadFault}

-- a question without a name, whose formula is from that byte on
abbrev nameless : Asking → ℕ → Result Head HeadFault
nameless asking formula = Ok (record { name = None; asking = asking; formula = formula })

-- one with a name
abbrev named : ℕ → ℕ → Asking → ℕ → Result Head HeadFault
named from to asking formula =
    Ok (record {
      name = Some (record { from = from; to = to });
      asking = asking;
      formula = formula;
    })

-- a text with that fault
abbrev refused : HeadCode → ℕ → Result Head HeadFault
refused code place = Err (fault_at code place)

-- ---- forms

never : head_of (codes "never a.cs = 1") ≡ nameless asking.Never 6
unfolding head_of front_of of_word
never = refl

can : head_of (codes "can a.cs = 1") ≡ nameless asking.Can 4
unfolding head_of front_of of_word
can = refl

always : head_of (codes "always a.cs = 1") ≡ nameless asking.Always 7
unfolding head_of front_of of_word
always = refl

surely : head_of (codes "surely a.cs = 1") ≡ nameless asking.Surely 7
unfolding head_of front_of of_word
surely = refl

at_the_end : head_of (codes "at  end a.cs = 1") ≡ nameless asking.AtEnd 8
unfolding head_of front_of of_word
at_the_end = refl

plain : head_of (codes "a.cs = 1") ≡ nameless asking.Plain 0
unfolding head_of front_of of_word
plain = refl

-- 9 is a tab
blanks_before : head_of (9 ∷ codes " never  !a.x = 1") ≡ nameless asking.Never 9
unfolding head_of front_of of_word
blanks_before = refl

-- a word ends where letters, digits and `_` end
no_blank_behind : head_of (codes "never(a.x = 1)") ≡ nameless asking.Never 5
unfolding head_of front_of of_word
no_blank_behind = refl

longer_word : head_of (codes "never1 a.x = 1") ≡ nameless asking.Plain 0
unfolding head_of front_of of_word
longer_word = refl

other_case : head_of (codes "Never a.x = 1") ≡ nameless asking.Plain 0
unfolding head_of front_of of_word
other_case = refl

no_formula : head_of (codes "never") ≡ nameless asking.Never 5
unfolding head_of front_of of_word
no_formula = refl

nothing_at_all : head_of [] ≡ nameless asking.Plain 0
unfolding head_of front_of of_word
nothing_at_all = refl

-- ---- processes that are named as forms are

process_can : head_of (codes "can.x = 1") ≡ nameless asking.Plain 0
unfolding head_of front_of of_word
process_can = refl

process_can_apart : head_of (codes "can .x = 1") ≡ nameless asking.Plain 0
unfolding head_of front_of of_word
process_can_apart = refl

can_process_can : head_of (codes "can can.x = 1") ≡ nameless asking.Can 4
unfolding head_of front_of of_word
can_process_can = refl

watch_on_never : head_of (codes "never@calm") ≡ nameless asking.Plain 0
unfolding head_of front_of of_word
watch_on_never = refl

process_at : head_of (codes "at.x = 1") ≡ nameless asking.Plain 0
unfolding head_of front_of of_word
process_at = refl

at_end_process_end : head_of (codes "at end end.x = 1") ≡ nameless asking.AtEnd 7
unfolding head_of front_of of_word
at_end_process_end = refl

-- ---- names

one_holder : head_of (codes "one holder: never a.cs = 1") ≡ named 0 10 asking.Never 18
unfolding head_of name_of front_of of_word
one_holder = refl

blanks_round_a_name : head_of (codes "  x : can a.x = 1") ≡ named 2 3 asking.Can 10
unfolding head_of name_of front_of of_word
blanks_round_a_name = refl

no_blank_behind_the_colon : head_of (codes "x:a.x = 1") ≡ named 0 1 asking.Plain 2
unfolding head_of name_of front_of of_word
no_blank_behind_the_colon = refl

-- a name may begin with a form's word, and have points
words_and_more : head_of (codes "never both: can a.x = 1") ≡ named 0 10 asking.Can 16
unfolding head_of name_of front_of of_word
words_and_more = refl

points : head_of (codes "p.x: never p.x = 1") ≡ named 0 3 asking.Never 11
unfolding head_of name_of front_of of_word
points = refl

-- a formula has no colon, so what follows the second one is its fault
second_colon : head_of (codes "x: y: never a.x = 1") ≡ named 0 1 asking.Plain 3
unfolding head_of name_of front_of of_word
second_colon = refl

-- 195 and 188 are the bytes of a letter
letters_of_two_bytes : head_of (195 ∷ 188 ∷ codes ": a.x = 1") ≡ named 0 2 asking.Plain 4
unfolding head_of name_of front_of of_word
letters_of_two_bytes = refl

-- ---- faults

name_missing : head_of (codes " : never a.x = 1") ≡ refused code.NoName 1
unfolding head_of name_of front_of of_word
name_missing = refl

form_as_name : head_of (codes "never: a.x = 1") ≡ refused code.WordsAsName 0
unfolding head_of name_of front_of of_word
form_as_name = refl

two_words_as_name : head_of (codes " at end : a.x = 1") ≡ refused code.WordsAsName 1
unfolding head_of name_of front_of of_word
two_words_as_name = refl

for_as_name : head_of (codes "for p q: never p.x = 1 & q.x = 1") ≡ refused code.WordsAsName 0
unfolding head_of name_of front_of of_word
for_as_name = refl

-- `format` begins with another word
word_behind_for : head_of (codes "format: a.x = 1") ≡ named 0 6 asking.Plain 8
unfolding head_of name_of front_of of_word
word_behind_for = refl

number_sign : head_of (codes "row #1: a.x = 1") ≡ refused code.NameByte 4
unfolding head_of name_of front_of of_word
number_sign = refl

tab_in_a_name : head_of (codes "a" ++ 9 ∷ codes "b: a.x = 1") ≡ refused code.NameByte 1
unfolding head_of name_of front_of of_word
tab_in_a_name = refl

end_missing : head_of (codes "at a.x = 1") ≡ refused code.NoEnd 3
unfolding head_of front_of of_word
end_missing = refl

at_alone : head_of (codes "x: at") ≡ refused code.NoEnd 5
unfolding head_of name_of front_of of_word
at_alone = refl

other_word_behind_at : head_of (codes "at ends a.x = 1") ≡ refused code.NoEnd 3
unfolding head_of front_of of_word
other_word_behind_at = refl

-- the name's fault is before the form's
name_first : head_of (codes "a#: at") ≡ refused code.NameByte 1
unfolding head_of name_of front_of of_word
name_first = refl

-- 32 is a blank
longest : head_of (replicate 8192 32) ≡ nameless asking.Plain 8192
unfolding head_of front_of of_word
longest = refl

too_long : head_of (replicate 8193 32) ≡ refused code.TooLong 8192
unfolding head_of front_of of_word
too_long = refl
