use Rattle.std.proofs.Common.{rules, arith, ◌≤◌, ◌∙◌, sum}
use Rattle.pull_system.specs.System.{SystemView}
use Rattle.pull_system.specs.Rows.{row_at}
use Rattle.bound_table.proofs.Allowed.{bounds_along}
use Rattle.bound_table.proofs.Claiming.{keeps_refl}
use Rattle.bound_table.proofs.Floors.{follows_trans, follows_again, row_sum}
use Rattle.bound_table.proofs.Settling.{settling_trans}
use Rattle.bound_table.proofs.Seeing.{asking_again, within_sum, settle_looks}
use Rattle.bound_table.proofs.table.BoundTable.settle_narrow.Goals as goal

pub ask_all-requires-clause-settling : goal.ask_all-requires-clause-settling
ask_all-requires-clause-settling g c =
    let looked = c.look_narrow.ensures in record {
      system = search rules;
      fits = looked.keeps.table ∙ c.requires.fits;
      there = c.requires.row;
      keeps = keeps_refl _;
      follows = follows_again c.args.self.now.system c.args.row _ _ _ looked.follows;
    }

pub close_row-requires : goal.close_row-requires
close_row-requires g c =
    record { asking = asking_again _ _ _ _ _ _ c.ask_all.ensures.asking }

pub returns-clause-follows : goal.returns-clause-follows
returns-clause-follows g c =
    follows_trans c.args.self.now.system c.args.row _ _ _ _ _ c.look_narrow.ensures.follows (settling_trans _ _ _ _ _ _ _ c.ask_all.ensures.asking.settling c.close_row.ensures.settling).follows

pub returns-clause-looks : goal.returns-clause-looks
returns-clause-looks g c =
    let system : SystemView = c.args.self.now.system in
    let bounds = bounds_along _ system _ c.args.seat.now.floor (search rules) (search rules) c.bounds.ensures in
    let before : sum (row_at system.lens c.args.seat.now.floor c.args.row) ≤ sum c.look_narrow.new.into = row_sum system c.args.row _ _ _ c.requires.row bounds c.look_narrow.ensures.follows in
    let seen = within_sum c.look_narrow.new.into c.ask_all.new.seen (omega (arith, c.look_narrow.ensures.follows.size, c.ask_all.ensures.asking.size)) c.ask_all.ensures.reaches in
    settle_looks _ _ _ _ _ _ _ c.ask_all.ensures.looks c.close_row.ensures.pays (omega (arith, before, seen))
