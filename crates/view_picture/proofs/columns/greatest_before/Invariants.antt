use Rattle.std.proofs.Common.{◌≡◌}
use Rattle.view_picture.specs.Columns.{column}
use Rattle.view_picture.specs.Ties.{known}
use Rattle.view_picture.specs.inside.Placing.{greatest_below}
use Rattle.view_picture.proofs.columns.greatest_before.Given as goal

abbrev pub invariant-loop-process : goal.invariant-loop-process
invariant-loop-process l = l.most ≡ greatest_below (λ p. column l.rows p (known l.order l.event p)) l.process
