use Rattle.std.proofs.Common.{◌≡◌, ap, sym, sum}
use Rattle.bound_table.proofs.Seeing.{follows_along, least_along}
use Rattle.bound_table.proofs.table.BoundTable.settle.Goals as goal

pub returns-clause-follows : goal.returns-clause-follows
returns-clause-follows g c =
    follows_along c.args.self.now.system c.args.row _ _ _ _ (sym c.widen.ensures) c.settle_narrow.ensures.follows

pub returns-clause-least : goal.returns-clause-least
returns-clause-least g c =
    least_along c.args.self.now.system c.args.row _ _ (sym c.widen.ensures) c.settle_narrow.ensures.least

pub returns-clause-looks : goal.returns-clause-looks
returns-clause-looks g c =
    let same : sum c.widen.new.into ≡ sum c.settle_narrow.new.into = ap sum c.widen.ensures in
    rw same c.settle_narrow.ensures.looks
