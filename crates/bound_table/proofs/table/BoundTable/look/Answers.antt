use Rattle.std.proofs.Common.{sym}
use Rattle.bound_table.proofs.Seeing.{follows_along}
use Rattle.bound_table.proofs.table.BoundTable.look.Goals as goal

pub returns-clause-follows : goal.returns-clause-follows
returns-clause-follows c =
    follows_along c.args.self.now.system c.args.row _ _ _ _ (sym c.widen.ensures) c.look_narrow.ensures.follows
