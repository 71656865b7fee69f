use Rattle.kept_log.specs.inside.Numbered.{ends_in}
use Rattle.kept_log.proofs.Steps.{map_more}
use Rattle.kept_log.proofs.names.all_ends.Goals as goal

pub loop-pair-preserved : goal.loop-pair-preserved
loop-pair-preserved c =
    let e = map_more (ends_in c.args.header.now c.args.second) c.args.pairs.now c.loop-pair.pair-index c.pair-item.result c.loop-pair-test.true c.pair-item.is in
    cc (c.in_ok-push.ensures.ok)
