use Rattle.std.proofs.Common.{List, ℕ, sum, ap, ◌∙◌, arith}
use Rattle.pull_system.specs.Rows.{RowsView, starts}
use Rattle.layer_rows.proofs.Settling.{settled_none, settled_more, settled_all}
use Rattle.layer_rows.proofs.slice_making.least_rows.Goals as goal

pub loop-row-init : goal.loop-row-init
loop-row-init g c = record {
  lens = ap (λ (r : RowsView). r.lens) c.in_ok-rows.ensures ∙ c.shape-shape.ensures.shape;
  settled = settled_none c.args.system.now c.in_ok-rows.rows.words (ap (λ (r : RowsView). r.words) c.in_ok-rows.ensures ∙ ap starts c.shape-shape.ensures.shape);
}

pub loop-row-preserved : goal.loop-row-preserved
loop-row-preserved g c = record {
  lens = c.settle_row.ensures.lens;
  settled = settled_more c.args.system.now c.loop-row.row c.loop-row.rows.words c.settle_row.new.rows.words c.loop-row.invariant.settled c.in_ok-settle_row.ensures.least c.settle_row.ensures.others;
}

pub returns-clause-least : goal.returns-clause-least
returns-clause-least g c = settled_all c.args.system.now c.loop-row.row c.loop-row.rows.words c.loop-row.invariant.settled
    (omega (arith, c.loop-row-test.false, c.events-row-end.ensures.count, ap sum c.shape-shape.ensures.shape))
