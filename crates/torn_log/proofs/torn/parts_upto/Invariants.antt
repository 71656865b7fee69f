use Rattle.std.proofs.Common.{length, map}
use Rattle.std.specs.Vec.Iter.{into_iter_items}
use Rattle.torn_log.proofs.Keeping.{KeepsOn}
use Rattle.torn_log.proofs.torn.parts_upto.Given as goal

abbrev pub invariant-loop-part : goal.invariant-loop-part
invariant-loop-part g l = KeepsOn l.cut (map g.P.Part.item l.fn.parts) (map g.P.Part.item l.kept) l.counts (map g.P.Part.item (into_iter_items l.rest))

abbrev pub decreases-loop-part : goal.decreases-loop-part
decreases-loop-part g l = length (into_iter_items l.rest)
