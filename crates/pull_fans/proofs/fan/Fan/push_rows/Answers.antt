use Rattle.std.proofs.Common.{◌≡◌, ◌+◌, ◌*◌, ◌<◌, ◌≤◌, ◌++◌, List, ℕ, length, get_or, ap, sym, subst, arith, ◌∙◌}
use Rattle.std.proofs.Math.Nat.{mul-le-mul_left}
use Rattle.pull_fans.specs.Fans.{FanView, HaveRows}
use Rattle.pull_fans.specs.declared.layout.Layout.{Layout}
use Rattle.pull_fans.specs.declared.layout.Layout.TheVariants.{ByTarget}
use Rattle.pull_fans.specs.inside.Layouts.{tables_in, width_in}
use Rattle.pull_fans.proofs.Fans.{have_rows}
use Rattle.pull_fans.proofs.Layouts.{IsKept, kept_rows, to_all_by_target}
use Rattle.pull_fans.proofs.fan.Fan.push_rows.Goals as goal

pub overflow_add-self : goal.overflow_add-self
overflow_add-self c =
    let some : 1 ≤ length c.args.self.now.targets = omega (arith, c.requires.process) in
    let each : c.args.count * 1 ≤ c.args.count * length c.args.self.now.targets = mul-le-mul_left c.args.count some in
    omega (arith, each, c.requires.size, c.self.invariant.0.rows)

pub invariant_of-self-2 : goal.invariant_of-self-2
invariant_of-self-2 c =
    let inside = c.self.inside in
    let targets : inside.targets ≡ c.args.self.now.targets = ap (λ (fan : FanView). fan.targets) c.self.view_is in
    let src : inside.src ≡ c.args.self.now.src = ap (λ (fan : FanView). fan.src) c.self.view_is in
    let some : inside.src < length inside.targets = omega (arith, c.requires.process, src, ap length targets) in
    let layout = to_all_by_target inside.layout inside.src inside.width inside.targets c.self.invariant.1 (λ index there. ap (λ (ts : List ℕ). get_or ts index 0) targets ∙ c.requires.all.each index (omega (arith, there, ap length targets))) some in
    let size : length c.args.rows.now ≡ c.args.count * length inside.targets = c.requires.size ∙ ap (λ (ts : List ℕ). c.args.count * length ts) (sym targets) in
    subst (λ (l : Layout). IsKept l inside.src inside.targets inside.width (inside.values + c.args.count) c.push_narrow.new.entries.items) (sym layout)
    (kept_rows inside.src inside.targets inside.width inside.values c.args.count inside.entries.items c.args.rows.now c.push_narrow.new.entries.items
    (subst (λ (l : Layout). IsKept l inside.src inside.targets inside.width inside.values inside.entries.items) layout c.self.invariant) (omega (arith, some)) size c.in_ok-push_narrow.ensures.ok)

pub returns-clause-rows : goal.returns-clause-rows
returns-clause-rows c =
    let inside = c.self.inside in
    let targets : inside.targets ≡ c.args.self.now.targets = ap (λ (fan : FanView). fan.targets) c.self.view_is in
    let src : inside.src ≡ c.args.self.now.src = ap (λ (fan : FanView). fan.src) c.self.view_is in
    let some : inside.src < length inside.targets = omega (arith, c.requires.process, src, ap length targets) in
    let layout = to_all_by_target inside.layout inside.src inside.width inside.targets c.self.invariant.1 (λ index there. ap (λ (ts : List ℕ). get_or ts index 0) targets ∙ c.requires.all.each index (omega (arith, there, ap length targets))) some in
    let width : inside.width ≡ length inside.targets = c.self.invariant.1.size ∙ ap (λ (l : Layout). width_in l (length inside.targets)) layout in
    let P : FanView → Type 0 = λ fan. HaveRows c.args.rows.now c.args.count fan.tables (tables_in inside.layout inside.targets inside.width (inside.values + c.args.count) c.push_narrow.new.entries.items) in
    let Q : Layout → ℕ → List ℕ → Type 0 = λ l w entries. HaveRows c.args.rows.now c.args.count (tables_in l inside.targets w inside.values inside.entries.items) (tables_in l inside.targets w (inside.values + c.args.count) entries) in
    subst P c.self.view_is
    (subst (Q inside.layout inside.width) (sym c.in_ok-push_narrow.ensures.ok)
    (subst (λ (l : Layout). Q l inside.width (inside.entries.items ++ c.args.rows.now)) (sym layout)
    (subst (λ (w : ℕ). Q ByTarget w (inside.entries.items ++ c.args.rows.now)) (sym width)
    (have_rows inside.targets inside.values c.args.count inside.entries.items c.args.rows.now (c.self.invariant.0.size ∙ ap (λ (w : ℕ). inside.values * w) width)))))
