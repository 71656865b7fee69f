use Rattle.std.proofs.Common.{◌-◌}
use Rattle.std.specs.Prelude.{sum}
use Rattle.run_model.specs.Cut.{lengths}
use Rattle.view_picture.specs.Choice.{wants}
use Rattle.view_picture.specs.inside.Placing.{HavePlaces}
use Rattle.view_picture.proofs.columns.rows_of.Given as goal

abbrev pub invariant-events : goal.invariant-events
invariant-events l = HavePlaces l.order (wants l.chooser.states.now l.chooser.tokens.now l.chooser.choice.now) l.cut l.rows.items

abbrev pub decreases-events : goal.decreases-events
decreases-events l = sum (lengths l.order) - sum l.cut
