-- Inside: the pulls of a system by the process that they come from.
use Rattle.std.specs.Prelude.{◌≡◌, ℕ, ◌<◌, List, [], length}
use Rattle.std.specs.Prelude.{slice_index_or}
use Rattle.pull_system.specs.System.{SystemView}
use Rattle.pull_fans.specs.Sources.{numbers_from}

-- for each process the numbers of the pulls from it
pub record AreBySource (system : SystemView) (by_source : List (List ℕ)) : Type 0 where
  pub count : length by_source ≡ length system.lens
  pub each : (process : ℕ) → process < length system.lens
      → slice_index_or by_source process []
      ≡ numbers_from system.pulls process (length system.pulls)
