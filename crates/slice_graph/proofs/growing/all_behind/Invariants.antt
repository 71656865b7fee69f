use Rattle.std.proofs.Common.{◌≡◌, ℕ, ◌<◌, [], length, get_or}
use Rattle.run_model.specs.Cut.{count}
use Rattle.slice_graph.specs.inside.Growing.{AreRowsBehind}
use Rattle.slice_graph.proofs.growing.all_behind.Given as goal

abbrev pub invariant-loop-source : goal.invariant-loop-source
invariant-loop-source l = record {
  size : length l.more ≡ l.source;
  each : (i : ℕ) → i < l.source → AreRowsBehind l.order i (count l.firsts i) (get_or l.more i []);
}
