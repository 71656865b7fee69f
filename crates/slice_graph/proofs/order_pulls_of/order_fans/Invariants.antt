use Rattle.std.proofs.Common.{◌≡◌, length, flat_map}
use Rattle.std.specs.List.{range_with_len}
use Rattle.pull_fans.specs.Fans.{pulls_of_fans}
use Rattle.slice_graph.specs.PullLists.{order_pull}
use Rattle.slice_graph.proofs.order_pulls_of.order_fans.Given as goal

abbrev pub invariant-loop-source : goal.invariant-loop-source
invariant-loop-source l = pulls_of_fans l.fans ≡ flat_map (λ i. flat_map (order_pull l.order i) (range_with_len 0 (length l.order))) (range_with_len 0 l.source)
