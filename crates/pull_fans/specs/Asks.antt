-- Rows of asks: for one value of a source, the most that any of its pulls asks of each process.
use Rattle.std.specs.Prelude.{◌≡◌, ◌⊎◌, ℕ, ◌<◌, ◌≤◌, List, length}
use Rattle.std.specs.Prelude.{slice_index}
use Rattle.pull_system.specs.System.{SystemView, source_of, target_of, ask}

-- some pull from the process asks this number of the target
pub record IsAskedBy (system : SystemView) (process x target number : ℕ) : Type 0 where
  pub k : ℕ
  pub there : k < length system.pulls
  pub from : source_of system k ≡ process
  pub to : target_of system k ≡ target
  pub asks : ask system k x ≡ number

-- What the pulls from the process ask of each process where its component is x: no pull asks for
-- more, and what stands there is asked by one of them, or is 0.
pub record AreAsks (system : SystemView) (process x : ℕ) (asks : List ℕ) : Type 0 where
  pub size : length asks ≡ length system.lens
  pub covers : (k : ℕ) → k < length system.pulls → source_of system k ≡ process
      → ask system k x ≤ slice_index asks (target_of system k)
  pub asked : (target : ℕ) → target < length system.lens → (slice_index asks target ≡ 0)
      ⊎ IsAskedBy system process x target (slice_index asks target)
