use Rattle.std.proofs.Common.{map, string_bytes, take}
use Rattle.part_pulls.specs.Observing.{clocks_seen}
use Rattle.instance_outcomes.specs.PassedOn.{HasSystem}
use Rattle.over_answers.specs.Tallies.{AreTallies}
use Rattle.over_answers.proofs.answering.answer_overs.Given as goal

abbrev pub invariant-loop-i : goal.invariant-loop-i
invariant-loop-i g l = record {
  tallied : AreTallies l.seen (map string_bytes (take l.i l.texts)) l.tallies;
  system : HasSystem (clocks_seen l.seen) l.system;
}
