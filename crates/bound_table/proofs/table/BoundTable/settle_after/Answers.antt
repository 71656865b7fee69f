use Rattle.std.proofs.Common.{rules, ap, sym, ◌≡◌, ◌≤◌, sum}
use Rattle.pull_system.specs.System.{SystemView}
use Rattle.pull_system.specs.Rows.{row_at}
use Rattle.bound_table.proofs.Allowed.{bounds_along}
use Rattle.bound_table.proofs.Claiming.{keeps_refl}
use Rattle.bound_table.proofs.Floors.{row_follows, row_sum}
use Rattle.bound_table.proofs.Settling.{settling_trans}
use Rattle.bound_table.proofs.Seeing.{follows_along, least_swap, lent_asking, fewer_looks}
use Rattle.bound_table.proofs.table.BoundTable.settle_after.Goals as goal

pub lend_row-requires-clause-settling : goal.lend_row-requires-clause-settling
lend_row-requires-clause-settling g c =
    let from = c.requires.from in record {
      system = search rules;
      fits = from.fits;
      there = from.rows.second;
      keeps = keeps_refl _;
      follows = row_follows c.args.self.now.system c.args.row _ _ from.rows.second (bounds_along _ _ _ _ (search rules) (search rules) c.bounds.ensures) from.looked;
    }

pub close_row-requires : goal.close_row-requires
close_row-requires g c =
    record { asking = lent_asking _ _ _ _ _ _ c.requires.from.vector c.requires.from.closed c.lend_row.ensures.settling c.lend_row.ensures.reaches }

pub returns-clause-follows : goal.returns-clause-follows
returns-clause-follows g c =
    follows_along c.args.self.now.system c.args.row _ _ _ _ (sym c.close_row.ensures.least.same) (settling_trans _ _ _ _ _ _ _ c.lend_row.ensures.settling c.close_row.ensures.settling).follows

pub returns-clause-least : goal.returns-clause-least
returns-clause-least g c =
    least_swap _ _ _ _ c.close_row.ensures.least

pub returns-clause-looks : goal.returns-clause-looks
returns-clause-looks g c =
    let system : SystemView = c.args.self.now.system in
    let bounds = bounds_along _ system _ c.args.seat.now.floor (search rules) (search rules) c.bounds.ensures in
    let before : sum (row_at system.lens c.args.seat.now.floor c.args.row) ≤ sum c.lend_row.new.vector = row_sum system c.args.row _ _ _ c.requires.from.rows.second bounds c.lend_row.ensures.settling.follows in
    let same : sum c.close_row.new.seen ≡ sum c.close_row.new.vector = ap sum c.close_row.ensures.least.same in
    rw same (fewer_looks _ _ _ _ _ _ c.close_row.ensures.looks before)

pub returns-clause-pays : goal.returns-clause-pays
returns-clause-pays g c =
    let same : sum c.close_row.new.seen ≡ sum c.close_row.new.vector = ap sum c.close_row.ensures.least.same in
    rw same c.close_row.ensures.pays
