use Rattle.std.proofs.Common.{◌+◌, ◌*◌, arith}
use Rattle.slice_graph.proofs.Pushing.{none_more_yet, nones_more}
use Rattle.slice_graph.proofs.table.CutTable.push_blocks.Goals as goal

pub loop-block-init : goal.loop-block-init
loop-block-init c = none_more_yet c.args.self.now

pub loop-block-preserved : goal.loop-block-preserved
loop-block-preserved c =
    nones_more c.args.self.now c.loop-block.self c.push_block.new.self (c.loop-block._block * 16) 16 ((c.loop-block._block + 1) * 16) c.loop-block.invariant (omega arith) c.in_ok-push_block.ensures
