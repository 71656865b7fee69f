-- The command as `clap` is told of it.
use Rattle.std.specs.Prelude.{Bool, true, false, ◌∷◌, [], Option, Some, List, map, find, fold}
use Rattle.std.specs.Prelude.{codes}
use Rattle.std.specs.Option.{option_map_or}
use Rattle.std.specs.Str.{bytes_eq}
use Rattle.clap.specs.Words.{App, Rule, Row, new_app, new_rule, first_of, with_rule}
use Rattle.clap.specs.declared.builder.action.ArgAction.TheVariants.{SetTrue}
use Rattle.clap.specs.Simple.{on_top}
use Rattle.clap.specs.declared.parser.matches.ValueSource.{ValueSource}
use Rattle.clap.specs.declared.parser.matches.ValueSource.TheVariants.{CommandLine}
use Rattle.command_words.specs.Rule.{Text, options, flags}
use Rattle.command_words.specs.Request.{Values}

-- a required positional
abbrev pub place : Text → Rule
place name = record (new_rule name) { required = true }

-- an option with one value
abbrev pub option_named : Text → Rule
option_named name = record (new_rule name) { long = Some name }

-- a flag
abbrev pub flag_named : Text → Rule
flag_named name = record (new_rule name) { long = Some name; action = Some SetTrue }

-- these arguments more
abbrev pub with_all : (Text → Rule) → List Text → App → App
with_all argument names app = fold with_rule app (map argument names)

-- the positionals in their order
abbrev pub places : List Text
places = codes "command" ∷ codes "formula" ∷ []

-- the words come without the program's name, and no flag for help or the version is added
abbrev pub bare_app : App
bare_app = on_top (λ s. record s {
  no_binary_name = true;
  disable_help_flag = true;
  disable_version_flag = true;
}) (new_app (codes "pota"))

-- the command
abbrev pub pota_app : App
pota_app = with_all flag_named flags
    (with_all option_named options (with_all place places bare_app))

-- the words, and no default, gave the value
abbrev pub from_words : Option ValueSource → Bool
from_words (Some CommandLine) = true
from_words _ = false

-- whether a flag stood among the words
abbrev pub stands_in : Text → List Row → Bool
stands_in name rows = option_map_or (λ (r : Row). from_words r.source)
    (find (λ (r : Row). bytes_eq r.id name) rows) false

-- the values among the rows that `clap` found
abbrev pub values_in : List Row → Values
values_in rows = record {
  command = first_of (codes "command") rows;
  formula = first_of (codes "formula") rows;
  workers = first_of (codes "workers") rows;
  seed = first_of (codes "seed") rows;
  procs = first_of (codes "procs") rows;
  events = first_of (codes "events") rows;
  slice = stands_in (codes "slice") rows;
  witness = stands_in (codes "witness") rows;
  each_batch = stands_in (codes "each-batch") rows;
  vclog = stands_in (codes "vclog") rows;
  merged = stands_in (codes "merged") rows;
}
