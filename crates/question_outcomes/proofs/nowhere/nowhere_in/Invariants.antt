use Rattle.std.proofs.Common.{take}
use Rattle.part_pulls.specs.Observing.{clocks_seen}
use Rattle.rctl_parts.specs.Pieces.{disjuncts_of}
use Rattle.question_outcomes.specs.inside.Nowhere.{AreNowhereIn}
use Rattle.question_outcomes.proofs.nowhere.nowhere_in.Given as goal
use Rattle.question_outcomes.specs.Telling.{HasSystem}

abbrev pub invariant-asked : goal.invariant-asked
invariant-asked g l = record {
  nowhere : AreNowhereIn l.seen (disjuncts_of (take l.index l.asked)) l.places;
  system : HasSystem (clocks_seen l.seen) l.system;
}
