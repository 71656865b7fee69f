-- Which words the command line takes, read from left to right.
use Rattle.std.specs.Prelude.{ℕ, zero, suc, Bool, false, not, ◌||◌, ◌==◌, List, [], ◌∷◌, ◌++◌}
use Rattle.std.specs.Prelude.{Option, None, Some, is_some, option_map, option_and_then, find, fold}
use Rattle.std.specs.Prelude.{codes, if◌then◌else◌}
use Rattle.std.specs.List.{list_any}
use Rattle.std.specs.Option.{option_map_or}
use Rattle.std.specs.Str.{bytes_eq}

abbrev pub Text : Type 0
Text = List ℕ

-- an option takes the word behind it as its value
abbrev pub options : List Text
options = codes "workers" ∷ codes "seed" ∷ codes "procs" ∷ codes "events" ∷ []

-- a flag stands by itself
abbrev pub flags : List Text
flags = codes "slice" ∷ codes "witness" ∷ codes "each-batch" ∷ codes "vclog" ∷ codes "merged" ∷ []

-- the word that stands for an option or a flag: its name behind `--`
abbrev pub spelled : Text → Text
spelled name = 45 ∷ 45 ∷ name

-- what a word is where no option waits for its value
pub data Kind : Type 0 where
  takes_value : Text → Kind
  flag : Text → Kind
  unknown : Kind
  positional : Kind

abbrev pub begins_dash : Text → Bool
begins_dash [] = false
begins_dash (x ∷ rest) = x == 45

-- the name among these that the word stands for
abbrev pub named_by : Text → List Text → Option Text
named_by word names = find (λ name. bytes_eq word (spelled name)) names

-- each option and each flag has exactly one spelling, and no other word begins with a hyphen
abbrev pub kind_of : Text → Kind
kind_of word = option_map_or takes_value (named_by word options)
    (option_map_or flag (named_by word flags) (if begins_dash word then unknown else positional))

-- an option, a flag or a positional that was given, with its value; a flag has the value `true`
pub record Use : Type 0 where
  pub name : Text
  pub value : Text

-- what the words so far have given: the uses in their order, the option that waits for its value,
-- and the number of positionals
pub record Given : Type 0 where
  pub uses : List Use
  pub waits : Option Text
  pub places : ℕ

abbrev pub nothing_given : Given
nothing_given = record { uses = []; waits = None; places = 0 }

abbrev pub is_used : Text → List Use → Bool
is_used name uses = list_any (λ (u : Use). bytes_eq u.name name) uses

abbrev pub value_of : Text → List Use → Option Text
value_of name uses =
    option_map (λ (u : Use). u.value) (find (λ (u : Use). bytes_eq u.name name) uses)

-- one use more, after which nothing waits
abbrev pub with_use : Text → Text → Given → Given
with_use name value g = record g {
  uses = g.uses ++ record { name = name; value = value } ∷ [];
  waits = None;
}

-- an option or a flag stands once
abbrev pub once : Text → Given → Given → Option Given
once name g next = if is_used name g.uses then None else Some next

-- the option waits for its value
abbrev pub waiting : Text → Given → Option Given
waiting name g = once name g (record g { waits = Some name })

-- a flag is used with the value `true`
abbrev pub with_flag : Text → Given → Option Given
with_flag name g = once name g (with_use name (codes "true") g)

-- the first positional is the command, the second the formula, and there is no third
abbrev pub with_place : ℕ → Text → Given → Option Given
with_place zero word g = Some (record (with_use (codes "command") word g) { places = 1 })
with_place (suc zero) word g = Some (record (with_use (codes "formula") word g) { places = 2 })
with_place (suc (suc n)) word g = None

-- the word where no option waits for its value
abbrev pub with_word : Kind → Text → Given → Option Given
with_word (takes_value name) word g = waiting name g
with_word (flag name) word g = with_flag name g
with_word unknown word g = None
with_word positional word g = with_place g.places word g

-- no value begins with a hyphen
abbrev pub taken_by : Option Text → Text → Given → Option Given
taken_by None word g = with_word (kind_of word) word g
taken_by (Some name) word g = if begins_dash word then None else Some (with_use name word g)

-- one word more; a word that is refused refuses all
abbrev pub step : Option Given → Text → Option Given
step None word = None
step (Some g) word = taken_by g.waits word g

-- at the end no option waits for its value, and there are two positionals
abbrev pub closed : Given → Option Given
closed g = if is_some g.waits || not (g.places == 2) then None else Some g

-- what the words give, where the rule takes them
abbrev pub given : List Text → Option Given
given words = option_and_then closed (fold step (Some nothing_given) words)
