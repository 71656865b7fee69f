use Rattle.view_picture.proofs.Places.{of_run}
use Rattle.view_picture.proofs.columns.column_of.Goals as goal

pub wants-requires : goal.wants-requires
wants-requires c = of_run c.args.order.now c.args.chooser.now.states.now.events c.args.event c.requires.run c.requires.there
