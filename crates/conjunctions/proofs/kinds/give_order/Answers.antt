use Rattle.std.proofs.Common.{take, sym, ◌∙◌, ap}
use Rattle.rctl_parts.specs.Pieces.{piece_of, pieces_of}
use Rattle.conjunctions.specs.inside.Numbering.{gives_order}
use Rattle.part_pulls.proofs.Taken.{splits_at, taken_more}
use Rattle.conjunctions.proofs.Ordering.{some_gives, none_and_one}
use Rattle.conjunctions.proofs.kinds.give_order.Goals as goal

pub returns-then-part_gives_order : goal.returns-then-part_gives_order
returns-then-part_gives_order c =
    let splits = splits_at c.args.parts.now c.loop-part.part-index c.part-item.result c.loop-part-test.true c.part-item.is in
    sym (ap gives_order splits.is ∙ some_gives (pieces_of (take c.loop-part.part-index c.args.parts.now)) (piece_of c.part-item.result) splits.later (sym c.part_gives_order.ensures ∙ c.if-part_gives_order.true))

pub loop-part-preserved : goal.loop-part-preserved
loop-part-preserved c =
    ap gives_order (taken_more c.args.parts.now c.loop-part.part-index c.part-item.result c.loop-part-test.true c.part-item.is)
    ∙ none_and_one (pieces_of (take c.loop-part.part-index c.args.parts.now)) (piece_of c.part-item.result) c.loop-part.invariant (sym c.part_gives_order.ensures ∙ c.if-part_gives_order.false)
