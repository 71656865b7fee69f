use Rattle.std.proofs.Common.{◌∙◌}
use Rattle.pull_system.specs.System.{SystemView}
use Rattle.bound_table.proofs.Floors.{within_trans}
use Rattle.slice_workers.proofs.Passes.{passed_reaches}
use Rattle.slice_workers.proofs.Reached.{all_reached, bottom_reaches, reaches_row}
use Rattle.slice_workers.proofs.settled.finish_here.Goals as goal

pub settle_rest-requires-clause-reached : goal.settle_rest-requires-clause-reached
settle_rest-requires-clause-reached g c =
    let system : SystemView = c.args.table.now.system in
    bottom_reaches system _ _ _ _ _ c.settle_narrow.ensures.follows c.settle_narrow.ensures.least c.requires.finals c.requires.handed

pub returns-clause-reaches : goal.returns-clause-reaches
returns-clause-reaches g c =
    let system : SystemView = c.args.table.now.system in
    let rest = c.settle_rest.ensures in
    let begun = bottom_reaches system _ _ _ _ _ c.settle_narrow.ensures.follows c.settle_narrow.ensures.least c.requires.finals c.requires.handed in
    let reached = passed_reaches system _ _ _ _ _ _ begun rest.settled in
    all_reached system _ _ (reaches_row system 0 _ _ reached.bottom) reached.handed rest.all

pub returns-clause-risen : goal.returns-clause-risen
returns-clause-risen g c = record {
  table = c.settle_rest.ensures.settled.table ∙ c.settle_narrow.ensures.keeps.table;
  rises = within_trans _ _ _ c.settle_narrow.ensures.follows.rises c.settle_rest.ensures.settled.rises;
}
