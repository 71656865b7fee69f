use Rattle.std.proofs.Common.{rules, arith, ◌≡◌, ◌∙◌, List, ℕ, ap, sym, subst, get_or}
use Rattle.pota_base.specs.Shape.{IsShape}
use Rattle.pull_system.specs.System.{SystemView}
use Rattle.bound_table.specs.inside.Rule.{KeepsOwn}
use Rattle.bound_table.proofs.Own.{own_floor, set_same}
use Rattle.bound_table.proofs.Moves.{looks, shares, shared_words}
use Rattle.bound_table.proofs.table.BoundTable.load.Goals as goal

pub load-requires : goal.load-requires
load-requires c =
    let begins = c.self.inside.table.shared.key.begins in
    let shared = shares c.self.inside.system begins c.self.inside.own (search rules) c.self.invariant.5 in
    let count = shared_words begins c.self.inside.system.lens c.self.inside.table.shared.table_id.words shared c.self.invariant.1 in
    (search rules, search (rules, count), looks begins c.self.inside.table.shared.key.system.value _ _ c.seat.inside.token.me _ shared (search rules) (search rules) (search rules))

pub returns-in-Some-clause-floor : goal.returns-in-Some-clause-floor
returns-in-Some-clause-floor c =
    let system : SystemView = c.args.self.now.system in
    let begins = c.self.inside.table.shared.key.begins in
    let kept : KeepsOwn system begins c.self.inside.own = let P : SystemView → Type 0 = λ s. KeepsOwn s begins c.self.inside.own in subst P (search rules) c.self.invariant.5 in
    let shape : IsShape system.lens = let P : List ℕ → Type 0 = IsShape in subst P (search rules) c.self.invariant.2 in
    let same : c.args.seat.now.floor ≡ c.in-Some.rows.words = own_floor system begins c.self.inside.own c.in-Some.rows c.args.self.now.begun c.args.seat.now.floor c.in-Some.is kept (search rules) shape c.reached.ensures.bounds c.reached.ensures.begun in
    set_same c.args.seat.now.floor c.args.word _ (ap (λ (words : List ℕ). get_or words c.args.word 0) (c.as_words.ensures.words ∙ sym same))

pub returns-in-Some-clause-rises : goal.returns-in-Some-clause-rises
returns-in-Some-clause-rises c =
    let system : SystemView = c.args.self.now.system in
    let begins = c.self.inside.table.shared.key.begins in
    let kept : KeepsOwn system begins c.self.inside.own = let P : SystemView → Type 0 = λ s. KeepsOwn s begins c.self.inside.own in subst P (search rules) c.self.invariant.5 in
    let shape : IsShape system.lens = let P : List ℕ → Type 0 = IsShape in subst P (search rules) c.self.invariant.2 in
    let same : c.args.seat.now.floor ≡ c.in-Some.rows.words = own_floor system begins c.self.inside.own c.in-Some.rows c.args.self.now.begun c.args.seat.now.floor c.in-Some.is kept (search rules) shape c.reached.ensures.bounds c.reached.ensures.begun in
    omega (arith, ap (λ (words : List ℕ). get_or words c.args.word 0) (c.as_words.ensures.words ∙ sym same))
