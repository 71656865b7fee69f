use Rattle.std.proofs.Common.{take}
use Rattle.part_pulls.specs.Observing.{clocks_seen}
use Rattle.rctl_parts.specs.Pieces.{disjuncts_of}
use Rattle.question_outcomes.specs.Telling.{AreOutcomes, HasSystem}
use Rattle.question_outcomes.proofs.listed.outcomes.Given as goal

abbrev pub invariant-listed : goal.invariant-listed
invariant-listed g l = record {
  made : AreOutcomes l.observation.growing.seen (disjuncts_of l.observation.growing.disjuncts) (take l.question-index l.listed) l.made;
  system : HasSystem (clocks_seen l.observation.growing.seen) l.system;
}
