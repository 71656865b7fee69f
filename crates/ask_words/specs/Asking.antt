-- What the words ask for: `[--merged | --vclog] [--steps N] QUESTION..`.
--
-- The options come first, in any order and each at most once, and N is a number of 32 bits. Behind
-- them are 1 to 64 questions, none of which begins with `--`.
use Rattle.std.specs.Prelude.{ℕ, ◌+◌, Bool, true, false, not, ◌&&◌, ◌||◌, ◌==◌, nat_le, List, []}
use Rattle.std.specs.Prelude.{◌∷◌, length, codes, Option, None, Some, if◌then◌else◌}
use Rattle.std.specs.Str.{bytes_eq}
use Rattle.pota_base.specs.Number.{◌>>=◌, number_at, whole}
use Rattle.pota_base.specs.Limits.{most_questions}
use Rattle.log_input.specs.declared.form.Form.{Form}
use Rattle.log_input.specs.declared.form.Form.TheVariants as form
use Rattle.ask_words.specs.declared.asking.Asked.{Asked}
use Rattle.ask_words.specs.declared.asking.Options.{Options}

-- ---- the options

-- one log, nothing said of steps
abbrev pub options_at_first : Options
options_at_first = record { form = form.OneLog; steps = None; waits = false }

-- begins with `--`
abbrev pub is_option : List ℕ → Bool
is_option [] = false
is_option (a ∷ []) = false
is_option (a ∷ b ∷ rest) = a == 45 && b == 45

-- a word is one of the options: it begins as they do, or is the number of steps
abbrev pub is_of_options : Options → List ℕ → Bool
is_of_options options word = options.waits || is_option word

-- another form than one log is asked for once at most
abbrev pub form_behind : Form → Form → Option Form
form_behind form.OneLog other = Some other
form_behind form.Merged other = None
form_behind form.Clocks other = None

abbrev pub with_form : Options → Form → Option Options
with_form options other =
    form_behind options.form other >>= λ f. Some (record options { form = f })

-- and so is a number of steps, which is the next word
abbrev pub waits_behind : Option ℕ → Options → Option Options
waits_behind None options = Some (record options { waits = true })
waits_behind (Some n) options = None

abbrev pub with_steps_word : Options → Option Options
with_steps_word options = waits_behind options.steps options

-- the word is that number
abbrev pub with_steps : Options → List ℕ → Option Options
with_steps options word =
    whole (number_at 4294967295 word)
    >>= λ n. Some (record options { steps = Some n; waits = false })

-- by one word more before the questions
abbrev pub with_option : Options → List ℕ → Option Options
with_option options word =
    if options.waits then with_steps options word
    else if bytes_eq word (codes "--merged") then with_form options form.Merged
    else if bytes_eq word (codes "--vclog") then with_form options form.Clocks
    else if bytes_eq word (codes "--steps") then with_steps_word options else None

-- ---- the questions

-- none of the words is an option
abbrev pub are_no_options : List (List ℕ) → Bool
are_no_options [] = true
are_no_options (word ∷ words) = not (is_option word) && are_no_options words

-- words that are questions: 64 at most, and none of them an option
abbrev pub are_questions : List (List ℕ) → Bool
are_questions words = are_no_options words && nat_le (length words) most_questions

-- how many steps are shown: 5 where nothing is said of it
abbrev pub steps_of : Option ℕ → ℕ
steps_of None = 5
steps_of (Some n) = n

-- these words are the questions, the first of which is the word of that number
abbrev pub asked_with : Options → ℕ → List (List ℕ) → Option Asked
asked_with options from words =
    if are_questions words
    then Some (record {
      form = options.form;
      steps = steps_of options.steps;
      questions_from = from;
    })
    else None

-- ---- the whole

-- with these options before the word of that number, by it and those behind it
unfoldable pub asked_from : Options → ℕ → List (List ℕ) → Option Asked
asked_from options at [] = None
asked_from options at (word ∷ words) =
    if is_of_options options word
    then with_option options word >>= (λ next. asked_from next (at + 1) words)
    else asked_with options at (word ∷ words)

-- what the words ask for
abbrev pub asked_by : List (List ℕ) → Option Asked
asked_by words = asked_from options_at_first 0 words
