-- What is named, as the definition of a kept run has it.
use Rattle.std.specs.Prelude.{map}
use Rattle.kept_runs.specs.Kept as kept
use Rattle.kept_names.specs.declared.names.Pair.{Pair}
use Rattle.kept_names.specs.declared.names.Names.{Names}

abbrev pub pair_of : Pair → kept.Pair
pair_of x = record { first = x.first; second = x.second }

abbrev pub names_of : Names → kept.Names
names_of names = record {
  variables = map pair_of names.variables;
  channels = map pair_of names.channels;
  processes = names.processes;
}
