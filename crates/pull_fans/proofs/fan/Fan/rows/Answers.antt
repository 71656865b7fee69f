use Rattle.std.proofs.Common.{rules, ℕ, List, refl, subst, sym, ◌≡◌}
use Rattle.pull_fans.specs.Fans.{FanView}
use Rattle.pull_fans.specs.inside.Fans.{AreFanRows, HasProcessRows}
use Rattle.pull_fans.specs.inside.Layouts.{tables_in}
use Rattle.pull_fans.proofs.Layouts.{fan_rows}
use Rattle.pull_fans.proofs.fan.Fan.rows.Goals as goal

pub returns : goal.returns
returns c =
    let inside = c.self.inside in
    let same : c.as_slice.result.now ≡ inside.entries.items = search rules in
    let view : FanView = record { src = inside.src; targets = inside.targets; tables = tables_in inside.layout inside.targets inside.width inside.values inside.entries.items } in
    let P : FanView → Type 0 = λ fan. (procs count : ℕ) → HasProcessRows fan procs count → AreFanRows fan procs count c.as_slice.result.now in
    let Q : List ℕ → Type 0 = λ rows. (procs count : ℕ) → HasProcessRows view procs count → AreFanRows view procs count rows in
    subst P c.self.view_is (subst Q (sym same) (fan_rows view inside.layout inside.width inside.values inside.entries.items c.self.invariant.1 c.self.invariant.2 refl c.self.invariant.0.size))
