use Rattle.std.proofs.Common.{◌+◌, List, [], ◌∷◌, length, get_or, arith, ap, subst, length-append}
use Rattle.pull_system.specs.System.{SystemView}
use Rattle.pull_fans.specs.Fans.{FanView, pulls_of_fans}
use Rattle.pull_fans.specs.inside.Asks.{HoldsAsks}
use Rattle.pull_fans.proofs.FirstFans.{asks_more}
use Rattle.pull_fans.proofs.asks.all_asks.Goals as goal

pub loop-process-preserved : goal.loop-process-preserved
loop-process-preserved c =
    let lens = c.args.shape.now in
    let process = c.loop-process.process in
    let old = c.loop-process.asks in
    let held = c.in_ok-held_asks.field-0 in
    let system : SystemView = record { lens = lens; pulls = pulls_of_fans c.args.fans.now } in
    let is : HoldsAsks system c.args.fans.now process (get_or lens process 0 + 2) held =
    subst (λ (fans : List FanView). HoldsAsks record { lens = lens; pulls = pulls_of_fans fans } fans process (get_or lens process 0 + 2) held) c.as_slice.ensures c.in_ok-held_asks.ensures in
    record {
      count = omega (arith, ap length c.in_ok-push.ensures.ok, length-append old (held ∷ []), c.loop-process.invariant.count);
      each = asks_more system c.args.fans.now process old c.push.new.self held c.loop-process.invariant.count c.in_ok-push.ensures.ok c.loop-process.invariant.each is;
    }
