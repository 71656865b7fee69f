use Rattle.std.proofs.Common.{rules, arith, sym, ◌∙◌}
use Rattle.bound_table.proofs.Allowed.{bounds_along}
use Rattle.pull_system.specs.System.{SystemView}
use Rattle.pull_system.specs.Rows.{place_of}
use Rattle.bound_table.proofs.Claiming.{keeps_trans}
use Rattle.bound_table.proofs.Floors.{within_trans}
use Rattle.bound_table.proofs.Lends.{has_start_more}
use Rattle.slice_workers.proofs.Reached.{settled_row}
use Rattle.slice_workers.proofs.Rises.{row_paid}
use Rattle.slice_workers.proofs.process.settle_next.Goals as goal

pub settle_after-requires-clause-lent : goal.settle_after-requires-clause-lent
settle_after-requires-clause-lent g c =
    let system : SystemView = c.args.table.now.system in
    λ i there. omega (arith, c.requires.reached.lent i there, c.look_lent.ensures.risen.rises.each (place_of system.lens c.args.before i))

pub settle_after-requires-clause-event : goal.settle_after-requires-clause-event
settle_after-requires-clause-event g c =
    let system : SystemView = c.args.table.now.system in
    has_start_more system.lens _ _ c.args.row c.args.before c.look_lent.ensures.risen.rises c.requires.lends.event

pub returns-clause-risen : goal.returns-clause-risen
returns-clause-risen g c = record {
  keeps = keeps_trans _ _ _ c.look_lent.ensures.risen.keeps c.settle_after.ensures.keeps;
  rises = within_trans _ _ _ c.look_lent.ensures.risen.rises c.settle_after.ensures.follows.rises;
  bounds = c.settle_after.ensures.follows.bounds;
}

pub returns-clause-reached : goal.returns-clause-reached
returns-clause-reached g c =
    let system : SystemView = c.args.table.now.system in
    settled_row system c.args.row _ _ _ c.settle_after.ensures.follows c.settle_after.ensures.least.least

pub returns-clause-rises_paid : goal.returns-clause-rises_paid
returns-clause-rises_paid g c =
    let system : SystemView = c.args.table.now.system in
    let looked = c.look_lent.ensures.risen in
    let bounds = bounds_along _ system _ c.args.seat.now.floor (search rules) (search rules) c.bounds.ensures in
    row_paid system c.args.row _ _ _ _ _ _ c.requires.lends.to looked.bounds.size c.settle_after.ensures.follows looked.rises looked.bounds c.settle_after.ensures.looks (bounds.size ∙ sym looked.bounds.size)
