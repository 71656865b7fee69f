use Rattle.std.proofs.Common.{rules, ◌≡◌, ◌≤◌, ◌*◌, ℕ, List, take, ap, subst}
use Rattle.pull_fans.specs.Fans.{FanView}
use Rattle.pull_fans.specs.inside.Growing.{kept_tables}
use Rattle.pull_fans.specs.inside.Layouts.{tables_in}
use Rattle.pull_fans.proofs.LongerFans.{tables_kept, tables_stay}
use Rattle.pull_fans.proofs.fan.Fan.keep.Goals as goal

pub returns-then-self-count : goal.returns-then-self-count
returns-then-self-count c =
    let inside = c.self.inside in
    let few : inside.values ≤ c.args.count = search rules in
    let made : List (List ℕ) → FanView = λ tables. record { src = inside.src; targets = inside.targets; tables = tables } in
    let P : FanView → Type 0 = λ fan. fan ≡ record fan { tables = kept_tables c.args.count fan } in
    subst P c.self.view_is (ap made (tables_stay inside.layout inside.src inside.targets inside.width inside.values c.args.count inside.entries.items few))

pub returns : goal.returns
returns c =
    let inside = c.self.inside in
    let few : c.args.count ≤ inside.values = search rules in
    let now = c.truncate.new.self.items in
    let first : now ≡ take (c.args.count * inside.width) inside.entries.items = search rules in
    let made : List (List ℕ) → FanView = λ tables. record { src = inside.src; targets = inside.targets; tables = tables } in
    let P : FanView → Type 0 = λ fan. made (tables_in inside.layout inside.targets inside.width c.args.count now) ≡ record fan { tables = kept_tables c.args.count fan } in
    subst P c.self.view_is (ap made (tables_kept inside.layout inside.src inside.targets inside.width inside.values c.args.count inside.entries.items now c.self.invariant.1 few first))
