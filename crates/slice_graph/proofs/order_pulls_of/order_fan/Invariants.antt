use Rattle.std.proofs.Common.{◌≡◌, ◌-◌, length, map}
use Rattle.std.specs.List.{range_with_len}
use Rattle.pull_fans.specs.Fans.{AreTables}
use Rattle.slice_graph.specs.PullLists.{order_entry}
use Rattle.slice_graph.specs.inside.PullLists.{other}
use Rattle.slice_graph.proofs.order_pulls_of.order_fan.Given as goal

abbrev pub invariant-loop-position : goal.invariant-loop-position
invariant-loop-position l = record {
  source : l.fan.src ≡ l.source;
  targets : l.fan.targets ≡ map (other l.source) (range_with_len 0 (length l.order - 1));
  tables : AreTables (λ k. order_entry l.order l.source (other l.source k)) (length l.order - 1) l.position l.fan.tables;
  width : length l.room ≡ length l.order - 1;
}
