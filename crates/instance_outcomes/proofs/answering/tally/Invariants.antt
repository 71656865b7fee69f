use Rattle.std.proofs.Common.{◌≡◌, ◌++◌}
use Rattle.part_pulls.specs.Observing.{clocks_seen}
use Rattle.question_outcomes.specs.Telling.{HasSystem}
use Rattle.instance_outcomes.specs.Answers.{IsTally}
use Rattle.instance_outcomes.proofs.answering.tally.Given as goal

abbrev pub invariant-instances : goal.invariant-instances
invariant-instances g l = record {
  tally : IsTally l.seen l.yielded l.tally;
  all : l.fn.instances ≡ l.yielded ++ l.instance-iterator.rest.items;
  system : HasSystem (clocks_seen l.seen) l.system;
}
