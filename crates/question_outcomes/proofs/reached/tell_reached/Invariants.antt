use Rattle.std.proofs.Common.{take}
use Rattle.part_pulls.specs.Observing.{clocks_seen}
use Rattle.rctl_parts.specs.Pieces.{disjuncts_of}
use Rattle.question_outcomes.proofs.Reaching.{AreFalse}
use Rattle.question_outcomes.proofs.reached.tell_reached.Given as goal
use Rattle.question_outcomes.specs.Telling.{HasSystem}

abbrev pub invariant-asked : goal.invariant-asked
invariant-asked g l = record {
  all : AreFalse l.seen (disjuncts_of (take l.index l.asked)) l.witnesses;
  system : HasSystem (clocks_seen l.seen) l.system;
}
