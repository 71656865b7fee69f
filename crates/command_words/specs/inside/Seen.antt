-- What the values on the way to a request stand for.
use Rattle.std.specs.Prelude.{◌≡◌, Bool, true, false, List, Option, None, Some, map, option_map}
use Rattle.std.specs.Borrow.{Bor}
use Rattle.command_words.specs.declared.kind.WordKind.{WordKind}
use Rattle.command_words.specs.declared.kind.WordKind.TheVariants as word
use Rattle.command_words.specs.declared.reading.Reading.{Reading}
use Rattle.command_words.specs.declared.reading.Part.{Part}
use Rattle.command_words.specs.declared.values.TextValues.{TextValues}
use Rattle.command_words.specs.Rule.{Text, Kind, takes_value, flag, unknown, positional, Use, Given}
use Rattle.command_words.specs.Request.{Values}

abbrev pub text_seen : Option (Bor Text) → Option Text
text_seen = option_map (λ t. t.now)

abbrev pub kind_seen : WordKind → Kind
kind_seen (word.TakesValue name) = takes_value name.now
kind_seen (word.Flag name) = flag name.now
kind_seen word.Unknown = unknown
kind_seen word.Positional = positional

abbrev pub uses_seen : List Part → List Use
uses_seen = map (λ (p : Part). record { name = p.name.now; value = p.value.now })

abbrev pub given_seen : Reading → Given
given_seen r = record {
  uses = uses_seen r.parts.items;
  waits = text_seen r.waits;
  places = r.places;
}

-- whether a step took its word, and what stands behind it
abbrev pub Took : Option Given → Bool → Given → Type 0
Took None taken after = taken ≡ false
Took (Some g) taken after = (taken ≡ true) × (after ≡ g)

abbrev pub values_seen : TextValues → Values
values_seen v = record {
  command = text_seen v.command;
  formula = text_seen v.formula;
  workers = text_seen v.workers;
  seed = text_seen v.seed;
  procs = text_seen v.procs;
  events = text_seen v.events;
  slice = v.slice;
  witness = v.witness;
  each_batch = v.each_batch;
  vclog = v.vclog;
  merged = v.merged;
}
