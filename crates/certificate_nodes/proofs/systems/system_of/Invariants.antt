use Rattle.std.proofs.Common.{◌≡◌, ◌++◌, flat_map, take}
use Rattle.pull_fans.specs.Fans.{pulls_of_fans}
use Rattle.slice_graph.specs.PullLists.{pulls_of_order}
use Rattle.certificate_nodes.specs.Plans.{pulls_asked}
use Rattle.certificate_nodes.proofs.systems.system_of.Given as goal

abbrev pub invariant-loop-part : goal.invariant-loop-part
invariant-loop-part l = pulls_of_fans l.fans ≡ pulls_of_order l.order ++ flat_map (pulls_asked l.plan l.slices) (take l.part-index l.parts)
