-- The system of an order's pulls, and that of an order which has grown since.
use Rattle.std.specs.Prelude.{◌≡◌}
use Rattle.run_model.specs.Cut.{Clocks, lengths}
use Rattle.causal_order.specs.Growth.{HasGrown}
use Rattle.pull_system.specs.System.{SystemView}
use Rattle.slice_graph.specs.PullLists.{pulls_of_order}

-- the system of the order's pulls alone
abbrev pub system_of_order : Clocks → SystemView
system_of_order o = record { lens = lengths o; pulls = pulls_of_order o }

-- the system of the pulls of an order that has grown to this one since, or is this one
pub record IsEarlierSystem (o : Clocks) (system : SystemView) : Type 0 where
  pub before : Clocks
  pub grown : HasGrown before o
  pub is : system ≡ system_of_order before
