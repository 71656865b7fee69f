use Rattle.std.proofs.Common.{◌≡◌, ◌+◌, ◌<◌, List, ℕ, length, ap, sym, subst, arith, ◌∙◌}
use Rattle.pull_fans.specs.Fans.{FanView, HasRow}
use Rattle.pull_fans.specs.inside.Layouts.{row_in, tables_in}
use Rattle.pull_fans.proofs.Fans.{has_row}
use Rattle.pull_fans.proofs.Layouts.{kept_next, place_within, row_at, some_targets, source_within}
use Rattle.pull_fans.proofs.fan.Fan.push_row.Goals as goal

pub push_row-requires-clause-source : goal.push_row-requires-clause-source
push_row-requires-clause-source c =
    let inside = c.self.inside in
    let count : length c.args.row.now ≡ length inside.targets = c.requires.width ∙ sym (ap (λ (fan : FanView). length fan.targets) c.self.view_is) in
    λ by. omega (arith, source_within inside.layout inside.src inside.width inside.targets c.self.invariant.1 by, count)

pub invariant_of-self-2 : goal.invariant_of-self-2
invariant_of-self-2 c =
    let inside = c.self.inside in
    let count : length c.args.row.now ≡ length inside.targets = c.requires.width ∙ sym (ap (λ (fan : FanView). length fan.targets) c.self.view_is) in
    let some : 0 < length inside.targets = some_targets inside.targets c.is_empty.result c.is_empty.ensures.1 c.if-is_empty.false in
    kept_next inside.layout inside.src inside.targets inside.width inside.values inside.entries.items c.args.row.now c.push_row.new.entries.items c.self.invariant some count c.in_ok-push_row.ensures.ok

pub returns-clause-row : goal.returns-clause-row
returns-clause-row c =
    let inside = c.self.inside in
    let count : length c.args.row.now ≡ length inside.targets = c.requires.width ∙ sym (ap (λ (fan : FanView). length fan.targets) c.self.view_is) in
    let laid = c.self.invariant.1 in
    let P : FanView → Type 0 = λ fan. HasRow c.args.row.now fan.tables (tables_in inside.layout inside.targets inside.width (inside.values + 1) c.push_row.new.entries.items) in
    let Q : List ℕ → Type 0 = λ entries. HasRow c.args.row.now (tables_in inside.layout inside.targets inside.width inside.values inside.entries.items) (tables_in inside.layout inside.targets inside.width (inside.values + 1) entries) in
    subst P c.self.view_is
    (subst Q (sym c.in_ok-push_row.ensures.ok)
    (has_row inside.layout inside.targets inside.width inside.values inside.entries.items c.args.row.now (row_in inside.layout inside.src c.args.row.now) c.self.invariant.0.size (λ i there. place_within inside.layout inside.src inside.width inside.targets i laid there)
    (λ i there. row_at inside.layout inside.src inside.width inside.targets c.args.row.now i laid count there)))
