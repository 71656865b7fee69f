use Rattle.std.proofs.Common.{rules, arith, ◌≡◌, ◌+◌, ◌-◌, ◌*◌, ◌<◌, ◌≤◌, ℕ, List, length, get_or, take, drop, ap, subst, sym, ◌∙◌}
use Rattle.std.proofs.lemmas.List.{length-take, length-drop, get_or-take, get_or-drop}
use Rattle.std.specs.List.{slice_range}
use Rattle.pull_fans.specs.Fans.{FanView}
use Rattle.pull_fans.specs.inside.Asks.{AreInTurn}
use Rattle.pull_fans.specs.inside.Layouts.{place_in}
use Rattle.pull_fans.proofs.Layouts.{row_stands, run_within, places_in_turn}
use Rattle.pull_fans.proofs.Raising.{run_fits, piece_raised, raised_in_next}
use Rattle.pull_fans.proofs.fan.Fan.raise_run.Goals as goal

pub row_of-row-requires : goal.row_of-row-requires
row_of-row-requires c =
    let inside = c.self.inside in
    let targets : inside.targets ≡ c.args.self.now.targets = ap (λ (fan : FanView). fan.targets) c.self.view_is in
    let some : 0 < length inside.targets = omega (arith, c.requires.run.some, c.requires.run.within, ap length targets) in
    let row =
    row_stands inside.layout inside.src inside.targets inside.width inside.values c.args.values c.loop-x.x inside.entries.items c.args.self.now.tables c.self.invariant.1 (ap (λ (fan : FanView). fan.tables) c.self.view_is) c.self.invariant.0.size
    (λ i inside. c.requires.values i (omega (arith, inside, ap length targets))) (search rules) some in
    omega (arith, row.room, ap length c.as_slice.ensures.value)

pub slice_bounds-raise_each-end : goal.slice_bounds-raise_each-end
slice_bounds-raise_each-end c =
    let same : c.as_slice-targets.result.now ≡ c.args.self.now.targets = search rules in
    let fits = run_fits c.args.self.now.targets c.args.first c.args.end c.args.procs c.loop-x.x c.args.values (length c.args.rows.now) c.requires.run c.requires.targets (search rules) c.requires.room in
    omega (arith, fits, ap (λ (ts : List ℕ). get_or ts c.args.first 0) same, length-take (c.place-place.result + (c.args.end - c.args.first) - c.place-place.result) (drop c.place-place.result c.row_of-row.result.now), c.loop-x.invariant.size)

pub loop-x-preserved : goal.loop-x-preserved
loop-x-preserved c =
    let inside = c.self.inside in
    let targets : inside.targets ≡ c.args.self.now.targets = ap (λ (fan : FanView). fan.targets) c.self.view_is in
    let some : 0 < length inside.targets = omega (arith, c.requires.run.some, c.requires.run.within, ap length targets) in
    let row =
    row_stands inside.layout inside.src inside.targets inside.width inside.values c.args.values c.loop-x.x inside.entries.items c.args.self.now.tables c.self.invariant.1 (ap (λ (fan : FanView). fan.tables) c.self.view_is) c.self.invariant.0.size
    (λ i inside. c.requires.values i (omega (arith, inside, ap length targets))) (search rules) some in
    let x = c.loop-x.x in
    let first = c.args.first in
    let end = c.args.end in
    let place = c.place-place.result in
    let same : c.as_slice-targets.result.now ≡ c.args.self.now.targets = search rules in
    let at : get_or c.as_slice-targets.result.now first 0 ≡ get_or c.args.self.now.targets first 0 = ap (λ (ts : List ℕ). get_or ts first 0) same in
    let in_turn : AreInTurn inside.targets first end = subst (λ (ts : List ℕ). AreInTurn ts first end) (sym targets) c.requires.run in
    let place_is : place ≡ place_in inside.layout inside.targets first = c.place-place.ensures ∙ ap (λ (ts : List ℕ). place_in inside.layout ts first) c.as_slice-targets.ensures in
    let within : place + (end - first) ≤ inside.width = omega (arith, place_is, run_within inside.layout inside.src inside.width inside.targets first end c.self.invariant.1 in_turn) in
    let fits = run_fits c.args.self.now.targets first end c.args.procs x c.args.values (length c.args.rows.now) c.requires.run c.requires.targets (search rules) c.requires.room in
    let begin : ℕ = x * c.args.procs + get_or c.as_slice-targets.result.now first 0 in
    let count : ℕ = place + (end - first) - place in
    let asked : List ℕ = take count (drop place c.row_of-row.result.now) in
    let size : first + length asked ≡ end = omega (arith, length-take count (drop place c.row_of-row.result.now), length-drop place c.row_of-row.result.now, c.row_of-row.ensures.size, within, c.requires.run.some) in
    let is_row = c.row_of-row.ensures.row ∙ ap (λ (es : List ℕ). slice_range es (x * inside.width) (x * inside.width + inside.width)) c.as_slice.ensures.value in
    raised_in_next c.args.self.now c.args.procs first end x begin asked c.args.rows.now c.loop-x.rows _ c.requires.run c.loop-x.invariant
    (piece_raised begin (begin + length asked - begin) asked c.loop-x.rows c.raise_each.new.row (omega arith) (omega (arith, fits, at, size, c.loop-x.invariant.size)) c.raise_each.ensures)
    (ap (λ (n : ℕ). x * c.args.procs + n) at) size
    (λ i there.
    get_or-take count (drop place c.row_of-row.result.now) i 0 (omega (arith, there, size)) ∙ get_or-drop place c.row_of-row.result.now i 0
    ∙ ap (λ (n : ℕ). get_or c.row_of-row.result.now n 0) (ap (λ (n : ℕ). n + i) place_is ∙ sym (places_in_turn inside.layout inside.targets first end i in_turn (omega (arith, there, size))))
    ∙ row.each c.row_of-row.result.now is_row (first + i) (omega (arith, there, size, in_turn.within)))
