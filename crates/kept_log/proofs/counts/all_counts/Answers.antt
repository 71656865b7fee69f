use Rattle.clock_laws.specs.Joined.{as_one}
use Rattle.kept_log.proofs.Rows.{counts_none, counts_more}
use Rattle.kept_log.proofs.counts.all_counts.Goals as goal

pub loop-process-init : goal.loop-process-init
loop-process-init c = let e = counts_none c.args.numbers.now (as_one c.args.batches.now) in cc (c.in_ok-counts.ensures)

pub loop-process-preserved : goal.loop-process-preserved
loop-process-preserved c =
    let e = counts_more c.args.numbers.now (as_one c.args.batches.now) c.loop-process.process in
    cc (c.in_ok-push.ensures.ok, c.in_ok-row.ensures)
