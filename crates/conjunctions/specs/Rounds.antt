-- The rows of conjunctions, and the system that they share, as contracts see them.
use Rattle.std.specs.Prelude.{List, Option, IfSome}
use Rattle.run_model.specs.Cut.{Clocks}
use Rattle.pull_system.specs.System.{SystemView}
use Rattle.slice_graph.specs.Growing.{IsEarlierSystem}
use Rattle.slice_workers.specs.Views.{SettledView}

-- the rows of before that are left, those that were settled, and the system of the order's pulls
-- where there is one
pub record RoundView : Type 0 where
  pub before : List SettledView
  pub settled : List SettledView
  pub system : Option SystemView

-- where the round has a system, it is that of the order's pulls alone, from this order or from an
-- earlier one
pub record HasOrderSystem (o : Clocks) (round : RoundView) : Type 0 where
  pub own : IfSome round.system (IsEarlierSystem o)
