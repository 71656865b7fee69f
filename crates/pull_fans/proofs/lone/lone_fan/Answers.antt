use Rattle.std.proofs.Common.{rules, ◌≡◌, ◌+◌, ◌⊎◌, ℕ, None, List, All, drop, length, refl, sym, subst}
use Rattle.std.specs.Prelude.{IsTrue}
use Rattle.pull_fans.specs.Fans.{FanView, pulls_of_fans, IsToAll}
use Rattle.pull_fans.specs.inside.Fans.{IsToOthers}
use Rattle.pull_fans.specs.inside.First.{IsFromOther}
use Rattle.pull_fans.specs.inside.Places.{fan_at}
use Rattle.pull_fans.proofs.LoneFans.{lone_asks}
use Rattle.pull_fans.proofs.Placing.{item_is}
use Rattle.pull_fans.proofs.lone.lone_fan.Goals as goal

pub returns : goal.returns
returns c =
    let lens = c.args.shape.now in
    let fans = c.args.fans.now in
    let number = c.in-Some.number in
    let first = c.in-Some.ensures.some in
    let none : c.first_from-2.result ≡ None = search rules in
    let others : All (IsFromOther c.args.process) (pulls_of_fans (drop (number + 1) fans)) = subst (λ (fs : List FanView). All (IsFromOther c.args.process) (pulls_of_fans fs)) c.split_at.ensures.back (c.first_from-2.ensures.none none) in
    let goes : IsTrue c.goes_around.result = search rules in
    let is = item_is fans fans number c.index-fans-number.result refl first.there c.index-fans-number.is in
    let P : FanView → Type 0 = λ fan. IsToAll fan (length lens) ⊎ IsToOthers fan (length lens) in
    let around : P (fan_at fans number) = subst P (sym is) (subst (λ (n : ℕ). IsToAll c.index-fans-number.result n ⊎ IsToOthers c.index-fans-number.result n) c.procs.ensures.count (c.goes_around.ensures goes)) in
    lone_asks lens fans c.args.process number c.requires.shape.some c.requires.pulls first others around
