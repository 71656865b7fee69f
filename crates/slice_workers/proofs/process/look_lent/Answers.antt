use Rattle.bound_table.proofs.Floors.{follows_row}
use Rattle.slice_workers.proofs.process.look_lent.Goals as goal

pub returns-then-not-may_gain-clause-looked : goal.returns-then-not-may_gain-clause-looked
returns-then-not-may_gain-clause-looked c =
    follows_row c.args.table.now.system c.args.row _ _ _ c.requires.row c.look_narrow.ensures.follows

pub returns-clause-looked : goal.returns-clause-looked
returns-clause-looked c =
    follows_row c.args.table.now.system c.args.row _ _ _ c.requires.row c.look_narrow-2.ensures.follows
