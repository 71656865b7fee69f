-- The pulls of a conjunction.
use Rattle.std.specs.Prelude.{List, ◌++◌}
use Rattle.run_model.specs.Cut.{Clocks}
use Rattle.pull_system.specs.declared.pull.Pull.{Pull}
use Rattle.pull_fans.specs.Fans.{pulls_of_fans}
use Rattle.conjunctions.specs.declared.gathered.Asked.{Asked}
use Rattle.conjunctions.specs.inside.Gathering.{first_pulls}

-- those of the order, where no part gives it, and those of the fans
abbrev pub asked_pulls : Clocks → Asked → List Pull
asked_pulls o asked = first_pulls o asked.has_order ++ pulls_of_fans asked.fans
