use Rattle.std.proofs.Common.{refl}
use Rattle.kept_runs.specs.Chosen.{chosen, new_number}
use Rattle.kept_runs.specs.Kept.{counted, kept_processes}
use Rattle.kept_runs.proofs.second_variable_kept.Goals as goal

pub returns : goal.returns
unfolding counted kept_processes chosen new_number
returns c = record { only_the_second = refl }
