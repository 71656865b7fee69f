use Rattle.std.proofs.Common.{◌≡◌, ◌+◌, ◌<◌}
use Rattle.least_cut.specs.inside.Climb.{IsClimb, AreHeld}
use Rattle.least_cut.proofs.look_at_all.Given as goal

abbrev pub invariant-loop-k : goal.invariant-loop-k
invariant-loop-k g l = record {
  climb : IsClimb l.system l.fn.vector l.vector l.fn.risen l.risen;
  settled : AreHeld l.system l.vector l.risen (λ k. k < l.k);
  looks : l.steps ≡ l.fn.steps + l.k;
}
