-- The least closed vector of a system, as a cut.
use Rattle.std.specs.Prelude.{ℕ, List, Option}
use Rattle.run_model.specs.Cut.{Cut}
use Rattle.pull_system.specs.System.{SystemView}
use Rattle.pull_system.specs.Rows.{IsLeast}
use Rattle.slice_graph.specs.Fitting.{IsCutOfVector}

-- the cut is the least closed vector, and absent where that has a component above its length
pub record IsLeastCut (system : SystemView) (cut : Option Cut) : Type 0 where
  pub vector : List ℕ
  pub least : IsLeast system 0 vector
  pub kept : IsCutOfVector system.lens vector cut
