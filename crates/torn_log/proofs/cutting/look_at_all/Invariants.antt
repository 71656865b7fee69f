use Rattle.std.proofs.Common.{length, map}
use Rattle.torn_log.proofs.Lowering.{GoesRound}
use Rattle.torn_log.proofs.cutting.look_at_all.Given as goal

abbrev pub invariant-loop-part : goal.invariant-loop-part
invariant-loop-part g l = GoesRound l.sends (map g.P.Part.item l.parts) (length l.fn.cut) l.part-index l.fn.cut l.cut l.counts l.lowered
