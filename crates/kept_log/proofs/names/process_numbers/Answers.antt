use Rattle.kept_log.specs.inside.Numbered.{process_in}
use Rattle.kept_log.proofs.Steps.{map_more}
use Rattle.kept_log.proofs.names.process_numbers.Goals as goal

pub loop-name-preserved : goal.loop-name-preserved
loop-name-preserved c =
    let e = map_more (process_in c.args.header.now) c.args.names.now c.loop-name.name-index c.name-item.result c.loop-name-test.true c.name-item.is in
    cc (c.in_ok-push.ensures.ok)
