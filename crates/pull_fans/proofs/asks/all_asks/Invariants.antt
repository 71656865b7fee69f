use Rattle.std.proofs.Common.{◌≡◌, ◌+◌, ◌<◌, ℕ, length, slice_index, slice_index_or}
use Rattle.pull_fans.specs.inside.Asks.{HoldsAsks, no_rows}
use Rattle.pull_fans.specs.Fans.{pulls_of_fans}
use Rattle.pull_fans.proofs.asks.all_asks.Given as goal

abbrev pub invariant-loop-process : goal.invariant-loop-process
invariant-loop-process l = record {
  count : length l.asks ≡ l.process;
  each : (process : ℕ) → process < l.process
      → HoldsAsks record { lens = l.shape; pulls = pulls_of_fans l.fans } l.fans process (slice_index l.shape process + 2) (slice_index_or l.asks process no_rows);
}
