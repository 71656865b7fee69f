use Rattle.std.proofs.Common.{rules, ◌+◌, ap, ◌∙◌}
use Rattle.slice_graph.specs.Views.{SliceView}
use Rattle.slice_graph.specs.inside.Pushing.{PushesRows, so_far}
use Rattle.slice_graph.proofs.Pushing.{pushes_none, pushes_both}
use Rattle.slice_graph.proofs.kept_rows.push_each.Goals as goal

pub loop-done-init : goal.loop-done-init
loop-done-init c = record {
  pushed = pushes_none c.args.rows.now c.args.first c.args.table.now c.args.top.now;
  lens = c.requires.lens;
  width = search rules;
  top = c.requires.width;
}

pub loop-done-preserved : goal.loop-done-preserved
loop-done-preserved c =
    let more : PushesRows c.args.rows.now (c.args.first + c.loop-done.done) 1 (so_far c.loop-done.table c.loop-done.top) (so_far c.push_kept.new.table c.push_kept.new.top) = c.in_ok-push_kept.ensures.pushed in
    record {
      pushed = pushes_both c.args.rows.now c.args.first c.loop-done.done 1 c.args.table.now c.loop-done.table c.push_kept.new.table c.args.top.now c.loop-done.top c.push_kept.new.top c.loop-done.invariant.pushed more;
      lens = ap (λ (v : SliceView). v.lens) more.table ∙ c.loop-done.invariant.lens;
      width = c.push_kept.ensures.width ∙ c.loop-done.invariant.width;
      top = c.push_kept.ensures.top ∙ c.loop-done.invariant.top;
    }
