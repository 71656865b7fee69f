use Rattle.std.proofs.Common.{rules, arith, ◌≡◌, subst, sym, ap, ◌∙◌}
use Rattle.pull_system.specs.System.{SystemView}
use Rattle.raise_machine.specs.Bounds.{AreBounds}
use Rattle.bound_table.specs.declared.seat.SeenBounds.{SeenBounds}
use Rattle.bound_table.specs.inside.Rule.{IsSound, word_count}
use Rattle.bound_table.proofs.Moves.{meets, has_word, together_sound, met_maximum}
use Rattle.bound_table.proofs.table.BoundTable.meet.Goals as goal

pub join_seat-requires : goal.join_seat-requires
join_seat-requires c = (search rules, search rules, search rules, has_word c.self.inside.table.shared.key.begins _ _ c.self.invariant.2 c.self.invariant.1, meets c.self.inside.table.shared.key.begins _ _ _ _ _ c.seat.invariant.0.live c.other.invariant.0.live)

pub invariant_of-seat : goal.invariant_of-seat
invariant_of-seat c =
    let one : c.seat.inside.token.me.0.system ≡ c.other.inside.token.me.0.system = search rules in
    let P : SeenBounds → Type 0 = IsSound in
    (subst P (sym (ap (λ me. me.0) c.join_seat.ensures.2)) (together_sound _ _ one c.seat.invariant.0 c.other.invariant.0), ap (λ me. me.1) c.join_seat.ensures.2 ∙ c.seat.invariant.1)

pub returns-clause-floor : goal.returns-clause-floor
returns-clause-floor c =
    let one : c.seat.inside.token.me.0.system ≡ c.other.inside.token.me.0.system = search rules in
    met_maximum c.seat.inside.token.me.0.floor c.other.inside.token.me.0.floor _ _ _ (sym (ap (λ v. v.floor) c.seat.view_is)) (sym (ap (λ v. v.floor) c.other.view_is)) (ap (λ me. me.0.floor) c.join_seat.ensures.2)
    (omega (arith, c.seat.invariant.0.floor.size, c.other.invariant.0.floor.size, ap (λ s. word_count s.lens) one))

pub returns-clause-bounds : goal.returns-clause-bounds
returns-clause-bounds c =
    let one : c.seat.inside.token.me.0.system ≡ c.other.inside.token.me.0.system = search rules in
    let same : c.join_seat.new.seat.me.0.system ≡ c.args.self.now.system = search rules in
    let P : SeenBounds → Type 0 = IsSound in
    let sound = subst P (sym (ap (λ me. me.0) c.join_seat.ensures.2)) (together_sound _ _ one c.seat.invariant.0 c.other.invariant.0) in
    let Q : SystemView → Type 0 = λ s. AreBounds s c.join_seat.new.seat.me.0.floor in subst Q same sound.floor
