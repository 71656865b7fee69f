use Rattle.std.proofs.Common.{◌≡◌, ℕ, List, take, sym, ap, subst, ◌∙◌}
use Rattle.pull_system.specs.declared.pull.Pull.{Pull}
use Rattle.pull_system.specs.System.{SystemView, IsSystem}
use Rattle.pull_fans.specs.Fans.{FanView, pulls_of_fans}
use Rattle.pull_fans.specs.inside.Asks.{AreAllAsks}
use Rattle.pull_fans.specs.inside.First.{HavePulls, first_system}
use Rattle.pull_fans.specs.inside.Places.{ArePlaces}
use Rattle.pull_fans.specs.inside.Sources.{AreBySource}
use Rattle.pull_fans.proofs.FirstFans.{first_is, first_pulls_are}
use Rattle.pull_fans.proofs.system.System.with_first_pulls.Goals as goal

pub invariant_of-result : goal.invariant_of-result
invariant_of-result c =
    let lens = c.self.inside.shape in
    let all = c.self.inside.fans in
    let stay = c.in-Some.stay in
    let first : c.first_of-fans.result ≡ take stay all = c.first_of-fans.ensures in
    let same : c.as_slice-2.result.now ≡ all = c.as_slice-2.ensures in
    let numbers : AreBySource (first_system lens all stay) c.forget_behind.new.by_source = subst (λ (fs : List FanView). AreBySource (first_system lens fs stay) c.forget_behind.new.by_source) same c.in_ok-forget_behind.ensures.numbers in
    let rows : AreAllAsks (first_system lens all stay) (take stay all) c.forget_behind.new.asks = subst (λ (fs : List FanView). AreAllAsks (first_system lens fs stay) (take stay fs) c.forget_behind.new.asks) same c.in_ok-forget_behind.ensures.asks in (
      subst (λ (fs : List FanView). IsSystem record { lens = lens; pulls = pulls_of_fans fs }) (sym first) (first_is lens all stay c.self.invariant.0),
      subst (λ (fs : List FanView). ArePlaces fs c.in_ok-places.places (pulls_of_fans fs)) c.as_slice-3.ensures c.in_ok-places.ensures,
      subst (λ (fs : List FanView). AreBySource record { lens = lens; pulls = pulls_of_fans fs } c.forget_behind.new.by_source) (sym first) numbers,
      subst (λ (fs : List FanView). AreAllAsks record { lens = lens; pulls = pulls_of_fans fs } fs c.forget_behind.new.asks) (sym first) rows,
    )

pub returns : goal.returns
returns c =
    let stay = c.in-Some.stay in
    let have : HavePulls c.self.inside.fans stay c.args.count = subst (λ (fs : List FanView). HavePulls fs stay c.args.count) c.as_slice.ensures c.in-Some.ensures in
    let by_lens : List ℕ → SystemView = λ lens. record { lens = lens; pulls = pulls_of_fans c.first_of-fans.result } in
    let by_pulls : List Pull → SystemView = λ list. record { lens = c.args.self.lens; pulls = list } in
    ap by_lens (ap (λ (s : SystemView). s.lens) c.self.view_is)
    ∙ ap by_pulls (ap pulls_of_fans c.first_of-fans.ensures ∙ sym (first_pulls_are c.self.inside.fans stay c.args.count have) ∙ ap (λ (s : SystemView). take c.args.count s.pulls) c.self.view_is)
