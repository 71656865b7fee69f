use Rattle.std.proofs.Common.{◌≡◌, ◌++◌, List}
use Rattle.pull_system.specs.declared.pull.Pull.{Pull}
use Rattle.slice_graph.specs.PullLists.{pulls_of_order}
use Rattle.layer_rows.proofs.slice_making.all_pulls.Given as goal

abbrev pub invariant-loop-pull : goal.invariant-loop-pull
invariant-loop-pull l = (rest : List Pull) × (l.pulls ≡ pulls_of_order l.order ++ rest)
