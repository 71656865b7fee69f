use Rattle.std.proofs.Common.{ℕ, ◌-◌, ◌∙◌, arith, ap, length, get_or}
use Rattle.event_log.proofs.Placing.{is_kept, event_is, within_at}
use Rattle.event_log.proofs.all_histories.Histories.event.Goals as goal

pub place-place-requires : goal.place-place-requires
place-place-requires c =
    let kept = is_kept c.self.inside.all.items c.self.inside.each.items c.args.self.now c.args.event.process c.index.result.now c.self.invariant c.self.view_is c.requires.process c.index.ensures in
    record { first = c.requires.first; last = omega (arith, c.requires.last, kept.events) }

pub index-requires-2 : goal.index-requires-2
index-requires-2 c =
    let h = c.index.result.now in
    let kept = is_kept c.self.inside.all.items c.self.inside.each.items c.args.self.now c.args.event.process h c.self.invariant c.self.view_is c.requires.process c.index.ensures in
    omega (arith, c.place-place.ensures, within_at (length c.self.inside.all.items) h.places (c.args.event.position - 1) kept.placed.within (omega (arith, c.requires.first, c.requires.last, kept.events)))

pub returns : goal.returns
returns c =
    let h = c.index.result.now in
    let all = c.self.inside.all.items in
    let kept = is_kept all c.self.inside.each.items c.args.self.now c.args.event.process h c.self.invariant c.self.view_is c.requires.process c.index.ensures in
    event_is all c.self.inside.each.items c.args.self.now c.args.event.process (c.args.event.position - 1) h c.index-2.result.now kept
    (omega (arith, c.requires.first, c.requires.last, kept.events))
    (c.index-2.ensures ∙ ap (λ (n : ℕ). get_or all n c.index-2.result.now) c.place-place.ensures)
