-- What `clap`'s look-ups give for the names of the command. A name more has its line in the list of its kind.
use Rattle.std.proofs.Common.{◌≡◌, true, ◌∷◌, refl, codes}
use Rattle.std.specs.List.{AllByRecursion, list_all}
use Rattle.clap.specs.Words.{built, is_simple}
use Rattle.clap.specs.Simple.{Shape}
use Rattle.command_words.specs.Rule.{options}
use Rattle.command_words.specs.ByClap.{pota_app}
use Rattle.command_words.proofs.Taking.{IsOption, IsFlag, HasArguments}
use Rattle.command_words.proofs.Found.{spares}

-- the command as `clap` builds it
abbrev pub top : Shape
top = (built pota_app).top

workers : IsOption top (codes "workers")
workers = record { spells = record { long = refl; other = refl }; long = refl; id = refl; command = refl; formula = refl }

seed : IsOption top (codes "seed")
seed = record { spells = record { long = refl; other = refl }; long = refl; id = refl; command = refl; formula = refl }

procs : IsOption top (codes "procs")
procs = record { spells = record { long = refl; other = refl }; long = refl; id = refl; command = refl; formula = refl }

events : IsOption top (codes "events")
events = record { spells = record { long = refl; other = refl }; long = refl; id = refl; command = refl; formula = refl }

slice : IsFlag top (codes "slice")
slice = record { spells = record { long = refl; other = refl }; long = refl; command = refl; formula = refl }

witness : IsFlag top (codes "witness")
witness = record { spells = record { long = refl; other = refl }; long = refl; command = refl; formula = refl }

each_batch : IsFlag top (codes "each-batch")
each_batch = record { spells = record { long = refl; other = refl }; long = refl; command = refl; formula = refl }

vclog : IsFlag top (codes "vclog")
vclog = record { spells = record { long = refl; other = refl }; long = refl; command = refl; formula = refl }

merged : IsFlag top (codes "merged")
merged = record { spells = record { long = refl; other = refl }; long = refl; command = refl; formula = refl }

pub arguments : HasArguments top
arguments = record {
  of_options = (workers, (seed, (procs, (events, tt))));
  of_flags = (slice, (witness, (each_batch, (vclog, (merged, tt)))));
  first = record { index = refl; id = refl };
  second = record { index = refl; id = refl };
}

pub simple : is_simple pota_app ≡ true
simple = refl

-- only flags have defaults
pub value_spared : AllByRecursion (λ name. list_all (spares name) top.rules ≡ true) (codes "command" ∷ codes "formula" ∷ options)
value_spared = (refl, (refl, (refl, (refl, (refl, (refl, tt))))))
