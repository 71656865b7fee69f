use Rattle.std.proofs.Common.{rules, ap, refl, ◌≡◌, ◌∙◌, List, ℕ, sym, subst, get_or}
use Rattle.pota_base.specs.Shape.{IsShape}
use Rattle.pull_system.specs.System.{SystemView}
use Rattle.bound_table.specs.inside.Rule.{KeepsOwn}
use Rattle.bound_table.proofs.Own.{is_own, own_floor, own_pulled}
use Rattle.bound_table.proofs.Moves.{lifts, shares, shared_words}
use Rattle.bound_table.proofs.Allowed.{pull_step_bound, bound_along, bounds_along, step_along}
use Rattle.bound_table.specs.inside.Rule.{pulled}
use Rattle.pull_system.specs.Rows.{place_of}
use Rattle.bound_table.proofs.table.BoundTable.raise_by_pull.Goals as goal

pub fetch_max-found-requires : goal.fetch_max-found-requires
fetch_max-found-requires c =
    let system = c.args.self.now.system in
    let step = c.requires.step in
    let bounds = bounds_along _ system _ c.args.seat.now.floor (search rules) (search rules) c.seat.invariant.0.floor in
    let machine = step_along system c.seat.inside.token.me.0.system c.args.seat.now.floor c.seat.inside.token.me.0.floor _ _ _ _ (search rules) (search rules)
    (search (rules, ap (λ t. place_of system.lens c.args.row t) step.to)) step.asks (pulled c.args.row step.k step.x step.allowed refl refl) in
    let bound = pull_step_bound system c.place-word.ensures.system c.args.seat.now.floor bounds c.args.row step.k step.x step.allowed in
    let begins = c.self.inside.table.shared.key.begins in
    let shared = shares c.self.inside.system begins c.self.inside.own (search rules) c.self.invariant.5 in
    let count = shared_words begins c.self.inside.system.lens c.self.inside.table.shared.table_id.words shared c.self.invariant.1 in (
      search rules,
      search (rules, count),
      lifts begins c.self.inside.table.shared.key.system.value _ _ c.seat.inside.token.me _ _ shared (search rules) (search rules) (search rules) machine
          (bound_along system _ _ _ _ _ (search rules) (search (rules, ap (λ t. place_of system.lens c.args.row t) step.to)) step.asks bound),
    )

pub returns-in-Some-clause-raised : goal.returns-in-Some-clause-raised
returns-in-Some-clause-raised c =
    let system : SystemView = c.args.self.now.system in
    let begins = c.self.inside.table.shared.key.begins in
    let kept : KeepsOwn system begins c.self.inside.own = let P : SystemView → Type 0 = λ s. KeepsOwn s begins c.self.inside.own in subst P (search rules) c.self.invariant.5 in
    let shape : IsShape system.lens = let P : List ℕ → Type 0 = IsShape in subst P (search rules) c.self.invariant.2 in
    let words : List ℕ = c.in-Some.rows.words in
    let floor : List ℕ = c.args.seat.now.floor in
    let same : floor ≡ words = own_floor system begins c.self.inside.own c.in-Some.rows c.args.self.now.begun floor c.in-Some.is kept (search rules) shape c.reached.ensures.bounds c.reached.ensures.begun in
    let least = (is_own system begins c.self.inside.own c.in-Some.rows c.in-Some.is kept).least in
    let place : ℕ = place_of system.lens c.args.row c.args.target in
    let now = ap (λ (ws : List ℕ). get_or ws c.place-word.result 0) c.as_words.ensures.words ∙ ap (λ (k : ℕ). get_or words k 0) c.place-word.ensures.place in
    own_pulled system c.place-word.ensures.system words floor least c.reached.ensures.bounds c.args.row c.args.target c.args.asked _ c.requires.target c.requires.step now (now ∙ ap (λ (ws : List ℕ). get_or ws place 0) (sym same))
