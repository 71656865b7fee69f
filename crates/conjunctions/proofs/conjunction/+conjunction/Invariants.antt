use Rattle.std.proofs.Common.{take}
use Rattle.rctl_parts.specs.Pieces.{pieces_of}
use Rattle.conjunctions.specs.inside.Numbering.{gives_order}
use Rattle.part_pulls.specs.Observing.{clocks_seen}
use Rattle.conjunctions.specs.inside.Gathering.{first_pulls}
use Rattle.conjunctions.proofs.Gathering.{PartsAdded}
use Rattle.conjunctions.proofs.conjunction.+conjunction.Given as goal

abbrev pub invariant-settle_conjunction-parts : goal.invariant-settle_conjunction-parts
invariant-settle_conjunction-parts g l =
    PartsAdded l.seen l.means.workers l.disjunct l.fn.round l.round l.fn.steps l.steps l.fn.answers l.answers
    (first_pulls (clocks_seen l.seen) (gives_order (pieces_of l.parts))) l.gathered (pieces_of (take l.index l.parts))
