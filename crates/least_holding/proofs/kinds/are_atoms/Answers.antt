use Rattle.std.proofs.Common.{take, sym, ◌∙◌, ap}
use Rattle.rctl_parts.specs.Pieces.{piece_of, pieces_of}
use Rattle.part_pulls.proofs.Taken.{splits_at, taken_more}
use Rattle.least_holding.specs.Least.{are_atoms}
use Rattle.least_holding.proofs.Asked.{some_temporal, all_and_one}
use Rattle.least_holding.proofs.kinds.are_atoms.Goals as goal

pub returns-then-not-is_atom : goal.returns-then-not-is_atom
returns-then-not-is_atom c =
    let splits = splits_at c.args.parts.now c.loop-part.part-index c.part-item.result c.loop-part-test.true c.part-item.is in
    sym (ap are_atoms splits.is ∙ some_temporal (pieces_of (take c.loop-part.part-index c.args.parts.now)) (piece_of c.part-item.result) splits.later (sym c.is_atom.ensures ∙ c.if-not-is_atom.true))

pub loop-part-preserved : goal.loop-part-preserved
loop-part-preserved c =
    ap are_atoms (taken_more c.args.parts.now c.loop-part.part-index c.part-item.result c.loop-part-test.true c.part-item.is)
    ∙ all_and_one (pieces_of (take c.loop-part.part-index c.args.parts.now)) (piece_of c.part-item.result) c.loop-part.invariant (sym c.is_atom.ensures ∙ c.if-not-is_atom.false)
