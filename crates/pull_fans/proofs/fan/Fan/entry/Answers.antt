use Rattle.std.proofs.Common.{rules, arith, ◌≡◌, ◌<◌, ◌+◌, ◌*◌, ℕ, List, length, get_or, ap, ◌∙◌}
use Rattle.std.proofs.lemmas.Grind.{get_or_default_zero}
use Rattle.pull_fans.specs.Fans.{FanView}
use Rattle.pull_fans.specs.inside.Layouts.{place_in}
use Rattle.pull_fans.proofs.Layouts.{entry_stands}
use Rattle.pull_fans.proofs.fan.Fan.entry.Goals as goal

pub overflow_mul-x : goal.overflow_mul-x
overflow_mul-x c =
    let inside = c.self.inside in
    let there : c.args.index < length inside.targets = search rules in
    let at = entry_stands inside.layout inside.src inside.targets inside.width inside.values c.args.index c.args.x inside.entries.items c.args.self.now.tables c.self.invariant.1 (ap (λ (fan : FanView). fan.tables) c.self.view_is) c.self.invariant.0.size there c.requires.value in
    let within : c.args.x * inside.width < length inside.entries.items = omega (arith, at.inside) in
    search rules

pub overflow_add-x : goal.overflow_add-x
overflow_add-x c =
    let inside = c.self.inside in
    let there : c.args.index < length inside.targets = search rules in
    let at = entry_stands inside.layout inside.src inside.targets inside.width inside.values c.args.index c.args.x inside.entries.items c.args.self.now.tables c.self.invariant.1 (ap (λ (fan : FanView). fan.tables) c.self.view_is) c.self.invariant.0.size there c.requires.value in
    let place : c.place.result ≡ place_in inside.layout inside.targets c.args.index = c.place.ensures ∙ ap (λ (ts : List ℕ). place_in inside.layout ts c.args.index) c.as_slice.ensures in
    let within : c.args.x * inside.width + c.place.result < length inside.entries.items = omega (arith, at.inside, place) in
    search rules

pub index-requires : goal.index-requires
index-requires c =
    let inside = c.self.inside in
    let there : c.args.index < length inside.targets = search rules in
    let at = entry_stands inside.layout inside.src inside.targets inside.width inside.values c.args.index c.args.x inside.entries.items c.args.self.now.tables c.self.invariant.1 (ap (λ (fan : FanView). fan.tables) c.self.view_is) c.self.invariant.0.size there c.requires.value in
    let place : c.place.result ≡ place_in inside.layout inside.targets c.args.index = c.place.ensures ∙ ap (λ (ts : List ℕ). place_in inside.layout ts c.args.index) c.as_slice.ensures in
    let within : c.args.x * inside.width + c.place.result < length inside.entries.items = omega (arith, at.inside, place) in
    search rules

pub returns : goal.returns
returns c =
    let inside = c.self.inside in
    let there : c.args.index < length inside.targets = search rules in
    let at = entry_stands inside.layout inside.src inside.targets inside.width inside.values c.args.index c.args.x inside.entries.items c.args.self.now.tables c.self.invariant.1 (ap (λ (fan : FanView). fan.tables) c.self.view_is) c.self.invariant.0.size there c.requires.value in
    let place : c.place.result ≡ place_in inside.layout inside.targets c.args.index = c.place.ensures ∙ ap (λ (ts : List ℕ). place_in inside.layout ts c.args.index) c.as_slice.ensures in
    let within : c.args.x * inside.width + c.place.result < length inside.entries.items = omega (arith, at.inside, place) in
    c.index.ensures ∙ get_or_default_zero inside.entries.items (c.args.x * inside.width + c.place.result) _ within ∙ ap (λ (n : ℕ). get_or inside.entries.items (c.args.x * inside.width + n) 0) place ∙ at.is
