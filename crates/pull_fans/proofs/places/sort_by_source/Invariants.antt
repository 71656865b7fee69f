use Rattle.std.proofs.Common.{◌≡◌, ◌<◌, ℕ, length, slice_index_or, []}
use Rattle.pull_fans.specs.Sources.{numbers_from}
use Rattle.pull_fans.specs.Fans.{pulls_of_fans}
use Rattle.pull_fans.proofs.places.sort_by_source.Given as goal

abbrev pub invariant-loop-process : goal.invariant-loop-process
invariant-loop-process l = record {
  count : length l.by_source ≡ l.process;
  each : (process : ℕ) → process < l.process
      → slice_index_or l.by_source process [] ≡ numbers_from (pulls_of_fans l.fans) process (length (pulls_of_fans l.fans));
}
