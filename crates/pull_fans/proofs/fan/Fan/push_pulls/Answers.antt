use Rattle.std.proofs.Common.{rules, ap}
use Rattle.pull_fans.specs.Fans.{FanView}
use Rattle.pull_fans.proofs.Fans.{pulls_next}
use Rattle.pull_fans.proofs.fan.Fan.push_pulls.Goals as goal

pub loop-index-preserved : goal.loop-index-preserved
loop-index-preserved c =
    pulls_next c.args.pulls.now c.loop-index.pulls c.push.new.self c.args.self.now c.loop-index.index c.self.inside.src _ c.in_ok-table.table c.loop-index.invariant c.in_ok-push.ensures.ok
    (ap (λ (fan : FanView). fan.src) c.self.view_is) (search rules) (search rules)
