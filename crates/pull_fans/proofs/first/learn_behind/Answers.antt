use Rattle.std.proofs.Common.{arith, List, take, refl, sym, subst, ◌∙◌}
use Rattle.pull_system.specs.declared.pull.Pull.{Pull}
use Rattle.pull_fans.specs.Fans.{pulls_of_fans}
use Rattle.pull_fans.specs.inside.Places.{ArePlaces}
use Rattle.pull_fans.proofs.Placing.{item_is, pulls_more}
use Rattle.pull_fans.proofs.first.learn_behind.Goals as goal

pub push_numbers-requires-clause-fans : goal.push_numbers-requires-clause-fans
push_numbers-requires-clause-fans c = record { there = c.loop-number.invariant.there; are = sym (c.len.ensures ∙ c.loop-number.invariant.places_are.count) }

pub loop-number-preserved : goal.loop-number-preserved
loop-number-preserved c =
    let fans = c.args.fans.now in
    let number = c.loop-number.number in
    let there = c.loop-number-test.true in
    let is = item_is fans fans number c.index-fans-number.result refl there c.index-fans-number.is in
    record {
      there = omega (arith, there);
      places_are =
          subst (λ (list : List Pull). ArePlaces fans c.push_places.new.places list) (sym (pulls_more fans number c.index-fans-number.result there is))
          (c.in_ok-push_places.ensures fans (pulls_of_fans (take number fans)) there is c.loop-number.invariant.places_are);
      numbers = c.in_ok-push_numbers.ensures;
      rows = c.in_ok-raise_asks.ensures;
    }
