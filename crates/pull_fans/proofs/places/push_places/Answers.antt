use Rattle.std.proofs.Common.{rules}
use Rattle.pull_fans.proofs.Placing.{places_next}
use Rattle.pull_fans.proofs.places.push_places.Goals as goal

pub loop-index-preserved : goal.loop-index-preserved
loop-index-preserved c =
    λ fans pulls there is are. places_next fans c.loop-index.places c.push.new.self pulls c.args.fan.now record { fan = c.args.number; index = c.loop-index.index } (c.loop-index.invariant fans pulls there is are) c.in_ok-push.ensures.ok there is (search rules)
