use Rattle.std.proofs.Common.{◌*◌, ◌/◌, ◌%◌, arith}
use Rattle.std.proofs.lemmas.Result.{on_ok_weaker}
use Rattle.slice_graph.proofs.Pushing.{nones_more}
use Rattle.slice_graph.proofs.table.CutTable.push_nones.Goals as goal

pub returns : goal.returns
returns c =
    let count = c.args.count in
    on_ok_weaker c.push_few.result
    (nones_more c.args.self.now c.push_blocks.new.self c.push_few.new.self (count / 16 * 16) (count % 16) count c.in_ok-push_blocks.ensures (omega arith)) c.push_few.ensures
