use Rattle.std.proofs.Common.{rules, arith, ◌≡◌, ◌<◌, ◌+◌, ◌*◌, ℕ, List, [], length, get_or, ap, sym, ◌∙◌}
use Rattle.std.proofs.lemmas.Grind.{get_or_default_zero}
use Rattle.std.proofs.lemmas.Nat.{mul-add-lt}
use Rattle.pull_fans.specs.Fans.{FanView, column}
use Rattle.pull_fans.specs.inside.Layouts.{place_in}
use Rattle.pull_fans.proofs.Fans.{column_next, table_at}
use Rattle.pull_fans.proofs.Layouts.{place_within}
use Rattle.pull_fans.proofs.fan.Fan.table.Goals as goal

pub loop-x-preserved : goal.loop-x-preserved
loop-x-preserved c =
    let inside = c.self.inside in
    let there : c.args.index < length inside.targets = search rules in
    let place : c.place-place.result ≡ place_in inside.layout inside.targets c.args.index = c.place-place.ensures ∙ ap (λ (ts : List ℕ). place_in inside.layout ts c.args.index) c.as_slice.ensures in
    let within : c.place-place.result < inside.width = omega (arith, place, place_within inside.layout inside.src inside.width inside.targets c.args.index c.self.invariant.1 there) in
    let below : c.loop-x.x < inside.values = search rules in
    let entry = mul-add-lt c.loop-x.x inside.width c.place-place.result inside.values below within in
    column_next inside.width c.loop-x.x c.place-place.result _ inside.entries.items c.loop-x.table c.push.new.self c.loop-x.invariant c.in_ok-push.ensures.ok
    (c.index.ensures ∙ get_or_default_zero inside.entries.items (c.loop-x.x * inside.width + c.place-place.result) _ (omega (arith, entry, c.self.invariant.0.size)))

pub returns : goal.returns
returns c =
    let inside = c.self.inside in
    let there : c.args.index < length inside.targets = search rules in
    let place : c.place-place.result ≡ place_in inside.layout inside.targets c.args.index = c.place-place.ensures ∙ ap (λ (ts : List ℕ). place_in inside.layout ts c.args.index) c.as_slice.ensures in
    let rows : c.loop-x.x ≡ inside.values = search rules in
    c.loop-x.invariant
    ∙ ap (λ (n : ℕ). column inside.width n inside.entries.items c.place-place.result) rows
    ∙ ap (λ (n : ℕ). column inside.width inside.values inside.entries.items n) place
    ∙ sym (table_at inside.layout inside.targets inside.width inside.values inside.entries.items c.args.index there)
    ∙ ap (λ (fan : FanView). get_or fan.tables c.args.index []) c.self.view_is
