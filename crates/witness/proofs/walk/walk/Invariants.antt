use Rattle.std.proofs.Common.{◌≡◌, ◌-◌, length}
use Rattle.run_model.specs.Witness.{FirstSteps}
use Rattle.run_model.proofs.Counts.{total}
use Rattle.witness.specs.Views.{places_of}
use Rattle.witness.proofs.walk.walk.Given as goal

abbrev pub invariant-walk : goal.invariant-walk
invariant-walk g l = record { steps : FirstSteps (g.W.Way.holds l.way) l.fn.start (places_of l.steps) l.at; width : length l.at ≡ length l.fn.start }

abbrev pub decreases-walk : goal.decreases-walk
decreases-walk g l = total l.goal - total l.at
