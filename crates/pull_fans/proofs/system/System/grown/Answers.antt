use Rattle.std.proofs.Common.{◌≡◌, ℕ, List, All, length, map, ap, sym, subst, ◌∙◌}
use Rattle.pull_system.specs.declared.pull.Pull.{Pull}
use Rattle.pull_system.specs.System.{SystemView, IsPull, IsSystem}
use Rattle.pull_fans.specs.Fans.{FanView, pulls_of_fans}
use Rattle.pull_fans.specs.Growing.{grown_pulls}
use Rattle.pull_fans.specs.inside.Growing.{grown_fan}
use Rattle.pull_fans.specs.inside.Places.{ArePlaces}
use Rattle.pull_fans.specs.inside.Sources.{AreBySource}
use Rattle.pull_fans.proofs.LongerFans.{grown_is, may_grow, numbers_grown, places_grown, pulls_grown}
use Rattle.pull_fans.proofs.system.System.grown.Goals as goal

pub grown_fans-requires-clause-fans : goal.grown_fans-requires-clause-fans
grown_fans-requires-clause-fans c =
    let lens = c.self.inside.shape in
    let fans = c.self.inside.fans in
    let more = c.args.more.now in
    let P : SystemView → Type 0 = λ s. All (IsPull c.args.shape.now) (grown_pulls s.lens more s.pulls) in
    let fit : All (IsPull c.args.shape.now) (grown_pulls lens more (pulls_of_fans fans)) = subst P (sym c.self.view_is) c.requires.pulls in
    may_grow lens c.args.shape.now more fans c.in_ok-shape.ensures.shape c.self.invariant.0.pulls fit

pub all_asks-requires : goal.all_asks-requires
all_asks-requires c =
    let lens = c.self.inside.shape in
    let fans = c.self.inside.fans in
    let more = c.args.more.now in
    let P : SystemView → Type 0 = λ s. All (IsPull c.args.shape.now) (grown_pulls s.lens more s.pulls) in
    let fit : All (IsPull c.args.shape.now) (grown_pulls lens more (pulls_of_fans fans)) = subst P (sym c.self.view_is) c.requires.pulls in
    let grown : pulls_of_fans c.in_ok-fans.fans ≡ grown_pulls lens more (pulls_of_fans fans) = ap pulls_of_fans c.in_ok-fans.ensures ∙ pulls_grown lens more fans in
    let is : IsSystem record { lens = c.args.shape.now; pulls = grown_pulls lens more (pulls_of_fans fans) } = grown_is lens c.args.shape.now more (pulls_of_fans fans) c.self.invariant.0 c.in_ok-shape.ensures.shape fit in
    let Q : List ℕ → Type 0 = λ new. IsSystem record { lens = new; pulls = pulls_of_fans c.in_ok-fans.fans } in
    let system : Q c.in_ok-shape.shape = subst Q (sym c.in_ok-shape.ensures.same) (subst (λ (ps : List Pull). IsSystem record { lens = c.args.shape.now; pulls = ps }) (sym grown) is) in
    system

pub invariant_of-result : goal.invariant_of-result
invariant_of-result c =
    let lens = c.self.inside.shape in
    let fans = c.self.inside.fans in
    let more = c.args.more.now in
    let P : SystemView → Type 0 = λ s. All (IsPull c.args.shape.now) (grown_pulls s.lens more s.pulls) in
    let fit : All (IsPull c.args.shape.now) (grown_pulls lens more (pulls_of_fans fans)) = subst P (sym c.self.view_is) c.requires.pulls in
    let grown : pulls_of_fans c.in_ok-fans.fans ≡ grown_pulls lens more (pulls_of_fans fans) = ap pulls_of_fans c.in_ok-fans.ensures ∙ pulls_grown lens more fans in
    let is : IsSystem record { lens = c.args.shape.now; pulls = grown_pulls lens more (pulls_of_fans fans) } = grown_is lens c.args.shape.now more (pulls_of_fans fans) c.self.invariant.0 c.in_ok-shape.ensures.shape fit in
    let Q : List ℕ → Type 0 = λ new. IsSystem record { lens = new; pulls = pulls_of_fans c.in_ok-fans.fans } in
    let system : Q c.in_ok-shape.shape = subst Q (sym c.in_ok-shape.ensures.same) (subst (λ (ps : List Pull). IsSystem record { lens = c.args.shape.now; pulls = ps }) (sym grown) is) in
    let now = c.in_ok-fans.fans in
    let new = c.in_ok-shape.shape in
    let size : length new ≡ length lens = ap length c.in_ok-shape.ensures.same ∙ c.requires.procs ∙ sym (ap (λ (s : SystemView). length s.lens) c.self.view_is) in
    let R : List FanView → Type 0 = λ fs. ArePlaces fs c.self.inside.places (pulls_of_fans now) in (
      system,
      subst R (sym c.in_ok-fans.ensures) (subst (ArePlaces (map (grown_fan lens more) fans) c.self.inside.places) (sym grown) (places_grown lens more fans c.self.inside.places (pulls_of_fans fans) c.self.invariant.1)),
      subst (λ (ps : List Pull). AreBySource record { lens = new; pulls = ps } c.self.inside.by_source) (sym grown) (numbers_grown lens new more (pulls_of_fans fans) c.self.inside.by_source size c.self.invariant.2),
      c.in_ok-asks.ensures,
    )

pub returns : goal.returns
returns c =
    let lens = c.self.inside.shape in
    let fans = c.self.inside.fans in
    let more = c.args.more.now in
    let by_lens : List ℕ → SystemView = λ new. record { lens = new; pulls = pulls_of_fans c.in_ok-fans.fans } in
    let by_pulls : List Pull → SystemView = λ list. record { lens = c.args.shape.now; pulls = list } in
    ap by_lens c.in_ok-shape.ensures.same
    ∙ ap by_pulls (ap pulls_of_fans c.in_ok-fans.ensures ∙ pulls_grown lens more fans ∙ ap (λ (s : SystemView). grown_pulls s.lens more s.pulls) c.self.view_is)
