use Rattle.std.proofs.Common.{rules, ◌≡◌, ◌<◌, List, length, subst, sym, take}
use Rattle.pull_system.specs.declared.pull.Pull.{Pull}
use Rattle.pull_fans.specs.Fans.{pulls_of_fans}
use Rattle.pull_fans.specs.inside.Places.{ArePlaces, fan_at}
use Rattle.pull_fans.proofs.Placing.{item_is, pulls_more}
use Rattle.pull_fans.proofs.places.places_of.Goals as goal

pub loop-number-preserved : goal.loop-number-preserved
loop-number-preserved c =
    let there : c.loop-number.number < length c.args.fans.now = search rules in
    let is : fan_at c.args.fans.now c.loop-number.number ≡ c.index-fans-number.result = item_is c.args.fans.now c.args.fans.now c.loop-number.number c.index-fans-number.result (search rules) (search rules) c.index-fans-number.is in
    let P : List Pull → Type 0 = ArePlaces c.args.fans.now c.push_places.new.places in
    subst P (sym (pulls_more c.args.fans.now c.loop-number.number c.index-fans-number.result there is))
    (c.in_ok-push_places.ensures c.args.fans.now (pulls_of_fans (take c.loop-number.number c.args.fans.now)) there is c.loop-number.invariant)
