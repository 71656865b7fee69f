use Rattle.std.proofs.Common.{◌≡◌, length, flat_map}
use Rattle.std.specs.List.{range_with_len}
use Rattle.pull_fans.specs.Fans.{pulls_of_fans}
use Rattle.temporal_slice.specs.NextPulls.{next_pull}
use Rattle.temporal_slice.proofs.behind_next.ex_fans.Given as goal

abbrev pub invariant-loop-source : goal.invariant-loop-source
invariant-loop-source l = pulls_of_fans l.fans ≡ flat_map (λ i. flat_map (next_pull l.child l.process i) (range_with_len 0 (length l.child.lens))) (range_with_len 0 l.source)
