use Rattle.std.proofs.Common.{take}
use Rattle.part_pulls.specs.Observing.{clocks_seen}
use Rattle.rctl_parts.specs.Pieces.{pieces_of}
use Rattle.question_outcomes.specs.inside.Nowhere.{AddsNowhere}
use Rattle.question_outcomes.proofs.nowhere.push_nowhere.Given as goal
use Rattle.question_outcomes.specs.Telling.{HasSystem}

abbrev pub invariant-parts : goal.invariant-parts
invariant-parts g l = record {
  adds : AddsNowhere l.seen l.disjunct 1 (pieces_of (take l.index l.parts)) l.fn.places l.places;
  system : HasSystem (clocks_seen l.seen) l.system;
}
