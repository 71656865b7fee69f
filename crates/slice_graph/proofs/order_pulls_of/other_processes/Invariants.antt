use Rattle.std.proofs.Common.{◌≡◌, map}
use Rattle.std.specs.List.{range_with_len}
use Rattle.slice_graph.specs.inside.PullLists.{other}
use Rattle.slice_graph.proofs.order_pulls_of.other_processes.Given as goal

abbrev pub invariant-loop-index : goal.invariant-loop-index
invariant-loop-index l = l.others ≡ map (other l.process) (range_with_len 0 l.index)
