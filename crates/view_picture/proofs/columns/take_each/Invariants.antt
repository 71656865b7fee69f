use Rattle.std.proofs.Common.{◌≡◌, ℕ, ◌<◌}
use Rattle.std.specs.Prelude.{◌⊎◌, sum}
use Rattle.view_picture.specs.Choice.{wants}
use Rattle.view_picture.specs.inside.Placing.{MayTake, HavePlaces}
use Rattle.view_picture.proofs.columns.take_each.Given as goal

abbrev pub invariant-loop-process : goal.invariant-loop-process
invariant-loop-process l = record {
  placed : HavePlaces l.order (wants l.chooser.states.now l.chooser.tokens.now l.chooser.choice.now) l.cut l.rows.items;
  more : (sum l.fn.cut < sum l.cut) ⊎ ((l.cut ≡ l.fn.cut) × ((p : ℕ) → p < l.process → MayTake l.order l.fn.cut p → ⊥));
}
