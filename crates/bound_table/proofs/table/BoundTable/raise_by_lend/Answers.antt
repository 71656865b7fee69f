use Rattle.std.proofs.Common.{rules, arith, ◌<◌, refl, ◌≡◌, List, ℕ, ap, subst, get_or}
use Rattle.pota_base.specs.Shape.{IsShape}
use Rattle.pull_system.specs.System.{SystemView}
use Rattle.pull_system.specs.Rows.{place_of}
use Rattle.bound_table.specs.inside.Rule.{KeepsOwn}
use Rattle.bound_table.proofs.Own.{is_own, own_floor, own_lent}
use Rattle.bound_table.specs.inside.Rule.{word_count, lent}
use Rattle.bound_table.proofs.Moves.{lifts, shares, shared_words}
use Rattle.bound_table.proofs.Allowed.{lend_step_bound, lend_parts, bound_along, bounds_along, step_along}
use Rattle.bound_table.proofs.Floors.{place_there}
use Rattle.bound_table.proofs.table.BoundTable.raise_by_lend.Goals as goal

pub fetch_max-was-requires : goal.fetch_max-was-requires
fetch_max-was-requires c =
    let system = c.args.self.now.system in
    let bounds = bounds_along _ system _ c.args.seat.now.floor (search rules) (search rules) c.seat.invariant.0.floor in
    let parts = lend_parts system c.args.seat.now.floor c.args.to_row c.args.from_row c.args.process c.args.y c.requires.step in
    let machine = step_along system c.seat.inside.token.me.0.system c.args.seat.now.floor c.seat.inside.token.me.0.floor _ _ _ _ (search rules) (search rules) (search rules) (search rules)
    (lent c.args.to_row c.args.from_row c.args.process c.args.y c.requires.step refl refl) in
    let there : c.args.word < word_count system.lens = omega (arith, c.requires.word, place_there system.lens c.args.to_row c.args.process parts.to_there parts.there) in
    let begins = c.self.inside.table.shared.key.begins in
    let shared = shares c.self.inside.system begins c.self.inside.own (search rules) c.self.invariant.5 in
    let count = shared_words begins c.self.inside.system.lens c.self.inside.table.shared.table_id.words shared c.self.invariant.1 in (
      search rules,
      search (rules, there, count),
      lifts begins c.self.inside.table.shared.key.system.value _ _ c.seat.inside.token.me _ _ shared (search rules) (search rules) (search (rules, there)) machine
          (bound_along system _ _ _ _ _ (search rules) (search rules) (search rules) (lend_step_bound system c.args.seat.now.floor bounds c.args.to_row c.args.from_row c.args.process c.args.y c.requires.step)),
    )

pub returns-in-Some-clause-raised : goal.returns-in-Some-clause-raised
returns-in-Some-clause-raised c =
    let system : SystemView = c.args.self.now.system in
    let begins = c.self.inside.table.shared.key.begins in
    let kept : KeepsOwn system begins c.self.inside.own = let P : SystemView → Type 0 = λ s. KeepsOwn s begins c.self.inside.own in subst P (search rules) c.self.invariant.5 in
    let shape : IsShape system.lens = let P : List ℕ → Type 0 = IsShape in subst P (search rules) c.self.invariant.2 in
    let words : List ℕ = c.in-Some._rows.words in
    let floor : List ℕ = c.args.seat.now.floor in
    let same : floor ≡ words = own_floor system begins c.self.inside.own c.in-Some._rows c.args.self.now.begun floor c.in-Some.is kept (search rules) shape c.reached.ensures.bounds c.reached.ensures.begun in
    let least = (is_own system begins c.self.inside.own c.in-Some._rows c.in-Some.is kept).least in
    let place : ℕ = place_of system.lens c.args.to_row c.args.process in
    own_lent system words floor least c.reached.ensures.bounds c.args.to_row c.args.from_row c.args.process c.args.y c.args.found c.requires.step c.requires.found (ap (λ (ws : List ℕ). get_or ws place 0) same)
