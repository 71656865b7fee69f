-- What the words ask for: the form of the input, whether its logs may be torn, whether all events
-- come in one batch, and what alone is kept.
use Rattle.std.specs.Prelude.{ℕ, Bool, true, false, ◌&&◌, ◌||◌, List, [], ◌∷◌, codes, Option, None}
use Rattle.std.specs.Prelude.{Some, if◌then◌else◌}
use Rattle.std.specs.Option.{option_map}
use Rattle.std.specs.Str.{bytes_eq}
use Rattle.log_lines.specs.Reading.{choose}
use Rattle.kept_names.specs.Words.{is_keep, names_kept, others}
use Rattle.log_input.specs.declared.form.Form.{Form}
use Rattle.log_input.specs.declared.form.Form.TheVariants as form
use Rattle.one_log.specs.declared.asking.Flags.{Flags}
use Rattle.one_log.specs.declared.asking.Asked.{Asked}

-- one log, its batches as they are read
abbrev pub flags_at_first : Flags
flags_at_first = record { form = form.OneLog; one_batch = false; torn = false }

-- another form than this is asked for once at most
abbrev pub form_behind : Form → Form → Option Form
form_behind form.OneLog other = Some other
form_behind form.Merged other = None
form_behind form.Clocks other = None

abbrev pub with_form : Flags → Form → Option Flags
with_form flags other =
    option_map (λ f. record flags { form = f }) (form_behind flags.form other)

-- and so is one batch
abbrev pub with_one_batch : Flags → Option Flags
with_one_batch flags = if flags.one_batch then None else Some (record flags { one_batch = true })

-- and so are torn logs
abbrev pub with_torn : Flags → Option Flags
with_torn flags = if flags.torn then None else Some (record flags { torn = true })

-- by one word more
abbrev pub with_word : Flags → List ℕ → Option Flags
with_word flags word =
    if bytes_eq word (codes "--merged") then with_form flags form.Merged
    else if bytes_eq word (codes "--vclog") then with_form flags form.Clocks
    else if bytes_eq word (codes "--one-batch") then with_one_batch flags
    else if bytes_eq word (codes "--torn") then with_torn flags else None

-- one that is `--keep` or stands behind it asks for none of these
abbrev pub with_next : Flags → (waits : Bool) → List ℕ → Option Flags
with_next flags waits word = if waits || is_keep word then Some flags else with_word flags word

abbrev pub is_clocks : Form → Bool
is_clocks form.OneLog = false
is_clocks form.Merged = false
is_clocks form.Clocks = true

-- records of two lines are never torn
abbrev pub if_taken : Flags → Option Flags
if_taken flags = if flags.torn && is_clocks flags.form then None else Some flags

-- by these words more, in any order
unfoldable pub with_words : Flags → List (List ℕ) → Option Flags
with_words flags [] = Some flags
with_words flags (word ∷ words) = choose (with_word flags word) (λ a. with_words a words) None

-- of all words but each `--keep` and the word behind it
abbrev pub flags_by : List (List ℕ) → Option Flags
flags_by words = choose (with_words flags_at_first (others words)) if_taken None

-- those, and what the words behind each `--keep` name
abbrev pub asked_by : List (List ℕ) → Option Asked
asked_by words =
    choose (flags_by words)
    (λ flags. option_map (λ names. record { flags = flags; names = names }) (names_kept words)) None
