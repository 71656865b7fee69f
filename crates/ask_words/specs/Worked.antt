-- Worked by hand: words, and what they ask for.
use Rattle.std.specs.Prelude.{◌≡◌, ℕ, List, [], ◌∷◌, replicate, Option, None, Some, codes, refl}
use Rattle.pota_base.specs.Number.{digits_from}
use Rattle.ask_words.specs.Asking.{asked_by, asked_from}
use Rattle.ask_words.specs.declared.asking.Asked.{Asked}
use Rattle.log_input.specs.declared.form.Form.{Form}
use Rattle.log_input.specs.declared.form.Form.TheVariants as form

-- this form and so many steps, and the questions from that word on
abbrev asks : Form → ℕ → ℕ → Option Asked
asks form steps from = Some (record { form = form; steps = steps; questions_from = from })

-- a question
abbrev question : List ℕ
question = codes "never a.cs = 1"

one_question : asked_by (question ∷ []) ≡ asks form.OneLog 5 0
unfolding asked_from
one_question = refl

two_questions : asked_by (question ∷ codes "a.cs = 1" ∷ []) ≡ asks form.OneLog 5 0
unfolding asked_from
two_questions = refl

merged : asked_by (codes "--merged" ∷ question ∷ []) ≡ asks form.Merged 5 1
unfolding asked_from
merged = refl

clocks_and_steps
    : asked_by (codes "--vclog" ∷ codes "--steps" ∷ codes "12" ∷ question ∷ [])
    ≡ asks form.Clocks 12 3
unfolding asked_from digits_from
clocks_and_steps = refl

steps_first
    : asked_by (codes "--steps" ∷ codes "0" ∷ codes "--merged" ∷ question ∷ [])
    ≡ asks form.Merged 0 3
unfolding asked_from digits_from
steps_first = refl

-- one `-` alone makes no option
one_dash : asked_by (codes "-1" ∷ []) ≡ asks form.OneLog 5 0
unfolding asked_from
one_dash = refl

most_questions : asked_by (replicate 64 question) ≡ asks form.OneLog 5 0
unfolding asked_from
most_questions = refl

-- ---- nothing that is taken

no_words : asked_by [] ≡ None
unfolding asked_from
no_words = refl

no_question : asked_by (codes "--merged" ∷ []) ≡ None
unfolding asked_from
no_question = refl

too_many : asked_by (replicate 65 question) ≡ None
unfolding asked_from
too_many = refl

form_twice : asked_by (codes "--merged" ∷ codes "--vclog" ∷ question ∷ []) ≡ None
unfolding asked_from
form_twice = refl

steps_twice
    : asked_by (codes "--steps" ∷ codes "1" ∷ codes "--steps" ∷ codes "1" ∷ question ∷ []) ≡ None
unfolding asked_from digits_from
steps_twice = refl

no_number : asked_by (codes "--steps" ∷ question ∷ []) ≡ None
unfolding asked_from digits_from
no_number = refl

leading_zero : asked_by (codes "--steps" ∷ codes "05" ∷ question ∷ []) ≡ None
unfolding asked_from digits_from
leading_zero = refl

option_behind : asked_by (question ∷ codes "--merged" ∷ []) ≡ None
unfolding asked_from
option_behind = refl

other_option : asked_by (codes "--last" ∷ codes "5" ∷ question ∷ []) ≡ None
unfolding asked_from
other_option = refl
