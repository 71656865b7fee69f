-- What the words behind `--keep` name.
use Rattle.std.specs.Prelude.{ℕ, Bool, true, false, not, ◌==◌, ◌&&◌, ◌||◌, List, [], ◌∷◌, ◌++◌}
use Rattle.std.specs.Prelude.{codes, Option, None, Some, if◌then◌else◌}
use Rattle.std.specs.Option.{option_map}
use Rattle.std.specs.Str.{bytes_eq}
use Rattle.pota_names.specs.Names.{is_name}
use Rattle.kept_names.specs.declared.names.Pair.{Pair}
use Rattle.kept_names.specs.declared.names.Named.{Named}
use Rattle.kept_names.specs.declared.names.Named.TheVariants.{Variable, Channel, Process}
use Rattle.kept_names.specs.declared.names.Names.{Names}

-- ---- names

abbrev pub no_names : Names
no_names = record { variables = []; channels = []; processes = [] }

abbrev pub is_nil : {A : Type 0} → List A → Bool
is_nil [] = true
is_nil (x ∷ xs) = false

abbrev pub are_none : Names → Bool
are_none names = is_nil names.variables && (is_nil names.channels && is_nil names.processes)

-- with one name more
abbrev pub with_one : Names → Named → Names
with_one names (Variable x) = record names { variables = names.variables ++ x ∷ [] }
with_one names (Channel x) = record names { channels = names.channels ++ x ∷ [] }
with_one names (Process name) = record names { processes = names.processes ++ name ∷ [] }

-- ---- one word

-- what comes of the first, if there is one
abbrev pub and_then : {A B : Type 0} → Option A → (A → Option B) → Option B
and_then None f = None
and_then (Some x) f = f x

-- the pair of two names, if both are names
abbrev pub pair_of : (first second : List ℕ) → Option Pair
pair_of first second =
    if is_name first && is_name second then Some (record { first = first; second = second })
    else None

-- the bytes before the first of these marks, and those behind it
unfoldable pub parted : (mark : ℕ) → List ℕ → Option (List ℕ × List ℕ)
parted mark [] = None
parted mark (b ∷ rest) =
    if b == mark then Some ([], rest) else option_map (λ x. (b ∷ x.0, x.1)) (parted mark rest)

-- and where both are names, their pair
abbrev pub pair_in : (mark : ℕ) → List ℕ → Option Pair
pair_in mark word = and_then (parted mark word) (λ x. pair_of x.0 x.1)

-- the first of the two that there is
abbrev pub or_else : {A : Type 0} → Option A → Option A → Option A
or_else None other = other
or_else (Some x) other = Some x

-- a variable by `NAME.VARIABLE`, a channel by `NAME>NAME`, or a process by `NAME`
abbrev pub named : List ℕ → Option Named
named word =
    or_else (option_map Variable (pair_in 46 word))
    (or_else (option_map Channel (pair_in 62 word))
    (if is_name word then Some (Process word) else None))

-- ---- all words

abbrev pub is_keep : List ℕ → Bool
is_keep word = bytes_eq word (codes "--keep")

-- with what the word names, where the word before it is `--keep`
abbrev pub with_word : (waits : Bool) → Names → List ℕ → Option Names
with_word waits names word = if waits then option_map (with_one names) (named word) else Some names

-- from these names on, where the word before is `--keep` or is not
unfoldable pub names_from : (waits : Bool) → Names → List (List ℕ) → Option Names
names_from waits names [] = if waits then None else Some names
names_from waits names (word ∷ words) =
    and_then (with_word waits names word)
    (λ more. names_from (not waits && is_keep word) more words)

abbrev pub names_kept : List (List ℕ) → Option Names
names_kept words = names_from false no_names words

-- the words without each `--keep` and the word behind it
unfoldable pub others_from : (waits : Bool) → List (List ℕ) → List (List ℕ)
others_from waits [] = []
others_from waits (word ∷ words) =
    if waits || is_keep word then others_from (not waits && is_keep word) words
    else word ∷ others_from false words

abbrev pub others : List (List ℕ) → List (List ℕ)
others words = others_from false words
