use Rattle.std.proofs.Common.{◌≤◌, length, arith}
use Rattle.log_fitting.proofs.Counting.{counted_more}
use Rattle.log_fitting.proofs.events.are_few.Goals as goal

pub loop-batch-preserved : goal.loop-batch-preserved
loop-batch-preserved c =
    let room : length c.batch-item.result ≤ c.loop-batch.left = omega (arith, c.if-len-left.false, c.len.ensures) in
    counted_more c.args.batches.now c.loop-batch.batch-index c.batch-item.result c.loop-batch.left c.len-left.result c.loop-batch-test.true c.batch-item.is c.loop-batch.invariant room c.len-left.ensures
