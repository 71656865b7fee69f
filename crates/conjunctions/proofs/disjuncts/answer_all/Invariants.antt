use Rattle.std.proofs.Common.{take}
use Rattle.rctl_parts.specs.Pieces.{disjuncts_of}
use Rattle.part_pulls.specs.Observing.{lens_seen}
use Rattle.conjunctions.specs.inside.Joining.{so_far}
use Rattle.conjunctions.proofs.Answered.{Answered}
use Rattle.conjunctions.proofs.disjuncts.answer_all.Given as goal

abbrev pub invariant-disjuncts : goal.invariant-disjuncts
invariant-disjuncts g l = Answered l.seen l.means.workers l.fn.round l.round l.fn.steps l.steps l.parts l.truth (so_far (lens_seen l.seen) l.joined) (disjuncts_of (take l.index l.disjuncts))
