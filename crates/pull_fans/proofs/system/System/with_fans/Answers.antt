use Rattle.std.proofs.Common.{ℕ, List, ◌++◌, All, length, sym, ap, subst, ◌∙◌, arith}
use Rattle.std.proofs.lemmas.Grind.{flat_map-append}
use Rattle.pull_system.specs.declared.pull.Pull.{Pull}
use Rattle.pull_system.specs.System.{SystemView, IsPull, IsSystem}
use Rattle.pull_fans.specs.Fans.{FanView, pulls_of_fan, pulls_of_fans}
use Rattle.pull_fans.specs.inside.First.{IsKnown}
use Rattle.pull_fans.proofs.FirstFans.{joined_is, known_before, known_all}
use Rattle.pull_fans.proofs.system.System.with_fans.Goals as goal

pub learn_behind-requires-clause-system : goal.learn_behind-requires-clause-system
learn_behind-requires-clause-system c =
    let own = c.self.inside.fans in
    let fit = subst (λ (lens : List ℕ). All (IsPull lens) (pulls_of_fans c.args.fans)) (sym (ap (λ (s : SystemView). s.lens) c.self.view_is)) c.requires.pulls in
    joined_is c.self.inside.shape own c.args.fans c.as_slice.result.now (c.as_slice.ensures ∙ c.in_ok-fans.ensures) c.self.invariant.0 fit
    (omega (arith, c.requires.count, ap (λ (s : SystemView). length s.pulls) c.self.view_is))

pub learn_behind-requires-clause-known : goal.learn_behind-requires-clause-known
learn_behind-requires-clause-known c =
    let own = c.self.inside.fans in
    subst (λ (n : ℕ). IsKnown c.self.inside.shape c.as_slice.result.now n c.self.inside.places c.self.inside.by_source c.self.inside.asks) (sym c.len-known.ensures)
    (known_before c.self.inside.shape own c.args.fans c.as_slice.result.now c.self.inside.places c.self.inside.by_source c.self.inside.asks (c.as_slice.ensures ∙ c.in_ok-fans.ensures) c.self.invariant.1 c.self.invariant.2 c.self.invariant.3)

pub invariant_of-result : goal.invariant_of-result
invariant_of-result c =
    let own = c.self.inside.fans in
    let lens = c.self.inside.shape in
    let fans = c.in_ok-fans.fans in
    let fit = subst (λ (lens : List ℕ). All (IsPull lens) (pulls_of_fans c.args.fans)) (sym (ap (λ (s : SystemView). s.lens) c.self.view_is)) c.requires.pulls in
    let is : IsSystem record { lens = lens; pulls = pulls_of_fans fans } =
    joined_is lens own c.args.fans fans c.in_ok-fans.ensures c.self.invariant.0 fit (omega (arith, c.requires.count, ap (λ (s : SystemView). length s.pulls) c.self.view_is)) in
    let known = subst (λ (fs : List FanView). IsKnown lens fs (length fs) c.learn_behind.new.places c.learn_behind.new.by_source c.learn_behind.new.asks) c.as_slice.ensures c.in_ok-learn_behind.ensures in
    let all = known_all lens fans c.learn_behind.new.places c.learn_behind.new.by_source c.learn_behind.new.asks known in
    (is, all.places_are, all.numbers, all.rows)

pub returns : goal.returns
returns c =
    let by_lens : List ℕ → SystemView = λ lens. record { lens = lens; pulls = pulls_of_fans c.in_ok-fans.fans } in
    let by_pulls : List Pull → SystemView = λ list. record { lens = c.args.self.lens; pulls = list } in
    ap by_lens (ap (λ (s : SystemView). s.lens) c.self.view_is)
    ∙ ap by_pulls (ap pulls_of_fans c.in_ok-fans.ensures ∙ flat_map-append pulls_of_fan c.self.inside.fans c.args.fans ∙ ap (λ (s : SystemView). s.pulls ++ pulls_of_fans c.args.fans) c.self.view_is)
