use Rattle.std.proofs.Common.{◌≡◌, length, map, take}
use Rattle.vector_clock.specs.Events.{no_events}
use Rattle.torn_log.specs.Items.{with_items}
use Rattle.torn_log.proofs.counting.count_all.Given as goal

abbrev pub invariant-loop-part : goal.invariant-loop-part
invariant-loop-part g l = l.counts ≡ map length (with_items (no_events l.procs) (take l.part-index (map g.P.Part.item l.parts)))
