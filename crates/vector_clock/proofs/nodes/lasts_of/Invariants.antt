use Rattle.std.proofs.Common.{◌≡◌, ℕ, ◌<◌, length, get_or}
use Rattle.std.specs.Prelude.{None}
use Rattle.vector_clock.specs.inside.Nodes.{admitted_at}
use Rattle.vector_clock.proofs.nodes.lasts_of.Given as goal

abbrev pub invariant-loop-process : goal.invariant-loop-process
invariant-loop-process l = record {
  count : length l.lasts.items ≡ l.process;
  each : (p : ℕ) → p < l.process → get_or l.lasts.items p None ≡ admitted_at l.lens p (get_or l.lens p 0);
}
