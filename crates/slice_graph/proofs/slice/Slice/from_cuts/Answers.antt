use Rattle.std.proofs.Common.{List, Option, ◌∷◌, length, arith, ap, ◌∙◌}
use Rattle.std.proofs.lemmas.List.{take_all}
use Rattle.std.proofs.lemmas.Result.{IfOk-weaker}
use Rattle.run_model.specs.Cut.{Cut}
use Rattle.slice_graph.proofs.slice.Slice.from_cuts.Goals as goal

pub returns : goal.returns
returns c = IfOk-weaker c.of.result _ _ (λ v is. is ∙ c.loop-row.invariant ∙ ap (λ (rows : List (Option Cut)). record { lens = c.args.shape.now; rows = c.args.bottom ∷ rows })
    (take_all c.loop-row.row-index c.args.rows (omega (arith, c.loop-row-test.false, ap length c.as_slice-row-items.ensures)))) c.of.ensures
