use Rattle.std.proofs.Common.{◌≡◌, Option, sum, subst, sym, ap, ◌∙◌, arith}
use Rattle.std.specs.Option.{option_copied}
use Rattle.std.proofs.lemmas.Result.{IfOk-weaker}
use Rattle.run_model.specs.Cut.{Cut}
use Rattle.run_model.specs.Sublattice.{Smallest, Either}
use Rattle.run_model.specs.Slice.{Cuts, StandsFor}
use Rattle.run_model.specs.Operators.{min_row}
use Rattle.slice_graph.specs.Views.{SliceView, slice_of}
use Rattle.slice_graph.specs.Fitting.{FitsOrder}
use Rattle.slice_graph.proofs.Building.{built_more}
use Rattle.graft.specs.Joined.{joined_views}
use Rattle.graft.proofs.Joining.{MinRow, joined_built, joined_stands_for, joined_fits}
use Rattle.graft.proofs.join.join_slices.Goals as goal

pub loop-row-preserved : goal.loop-row-preserved
loop-row-preserved c = record {
  built = built_more c.args.left.now.lens (MinRow c.args.left.now c.args.right.now) c.loop-row.row c.loop-row.table c.push_minimum.new.table
      (min_row (option_copied c.row.result) (option_copied c.row-in-loop-row.result)) c.loop-row.invariant.built
      (ap (λ (k : Option Cut). min_row k (option_copied c.row-in-loop-row.result)) c.row.ensures.row ∙ ap (min_row _) c.row-in-loop-row.ensures.row)
      c.in_ok-push_minimum.ensures.pushed;
  width = c.push_minimum.ensures.width ∙ c.loop-row.invariant.width;
}

pub returns-clause-rows : goal.returns-clause-rows
returns-clause-rows c =
    let t : c.loop-row.table ≡ joined_views c.args.left.now c.args.right.now =
    joined_built c.args.left.now c.args.right.now c.loop-row.table c.loop-row.row c.loop-row.invariant.built
    (omega (arith, c.loop-row-test.false, c.events-row-end.ensures.count, ap sum c.shape-shape-2.ensures.lens, c.shape-shape-2.ensures.rows.count))
    (omega (arith, c.loop-row-test.false, c.events-row-end.ensures.count, ap sum c.shape-shape-2.ensures.lens, c.shape-shape.ensures.rows.count, ap sum c.requires)) in
    IfOk-weaker c.of.result _ _ (λ v is. is ∙ t) c.of.ensures

pub returns-clause-stands : goal.returns-clause-stands
returns-clause-stands c =
    let t : c.loop-row.table ≡ joined_views c.args.left.now c.args.right.now =
    joined_built c.args.left.now c.args.right.now c.loop-row.table c.loop-row.row c.loop-row.invariant.built
    (omega (arith, c.loop-row-test.false, c.events-row-end.ensures.count, ap sum c.shape-shape-2.ensures.lens, c.shape-shape-2.ensures.rows.count))
    (omega (arith, c.loop-row-test.false, c.events-row-end.ensures.count, ap sum c.shape-shape-2.ensures.lens, c.shape-shape.ensures.rows.count, ap sum c.requires)) in
    λ o f g. IfOk-weaker c.of.result _ _ (λ v is.
    subst (λ (x : SliceView). StandsFor o (slice_of x) (Smallest (Either (Cuts o (slice_of c.args.left.now)) (Cuts o (slice_of c.args.right.now))))) (sym (is ∙ t))
    (joined_stands_for o c.args.left.now c.args.right.now c.requires f g)) c.of.ensures

pub returns-clause-fits : goal.returns-clause-fits
returns-clause-fits c =
    let t : c.loop-row.table ≡ joined_views c.args.left.now c.args.right.now =
    joined_built c.args.left.now c.args.right.now c.loop-row.table c.loop-row.row c.loop-row.invariant.built
    (omega (arith, c.loop-row-test.false, c.events-row-end.ensures.count, ap sum c.shape-shape-2.ensures.lens, c.shape-shape-2.ensures.rows.count))
    (omega (arith, c.loop-row-test.false, c.events-row-end.ensures.count, ap sum c.shape-shape-2.ensures.lens, c.shape-shape.ensures.rows.count, ap sum c.requires)) in
    λ o order f g. IfOk-weaker c.of.result _ _ (λ v is. subst (FitsOrder o) (sym (is ∙ t)) (joined_fits o order c.args.left.now c.args.right.now c.requires f g)) c.of.ensures
