use Rattle.std.proofs.Common.{◌≡◌, false}
use Rattle.view_picture.specs.Ties.{any_below, is_before, last_known}
use Rattle.view_picture.proofs.ties.is_between.Given as goal

abbrev pub invariant-loop-process : goal.invariant-loop-process
invariant-loop-process l = any_below (λ p. is_before l.order l.first (last_known l.order l.columns l.second p)) l.process ≡ false
