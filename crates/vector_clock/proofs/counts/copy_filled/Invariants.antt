use Rattle.std.proofs.Common.{◌≡◌, ℕ, [], ◌<◌, length, get_or}
use Rattle.vector_clock.specs.inside.Nodes.{event_in, with_clock}
use Rattle.vector_clock.proofs.counts.copy_filled.Given as goal

abbrev pub invariant-loop-i : goal.invariant-loop-i
invariant-loop-i l = record {
  size : length l.filled ≡ l.i;
  each : (k : ℕ) → k < l.i → event_in l.filled k ≡ with_clock (event_in l.batch k) (get_or l.clocks k []);
}
