use Rattle.std.proofs.Common.{◌≡◌, ◌∙◌, arith, ap, length, get_or, [], sym}
use Rattle.std.specs.Prelude.{pos}
use Rattle.std.proofs.lemmas.Int.{to_z-of_z}
use Rattle.event_log.specs.States.{HistoryView, states_in}
use Rattle.event_log.specs.inside.Places.{events_at}
use Rattle.event_log.specs.inside.States.{nothing}
use Rattle.event_log.proofs.Histories.{history_value}
use Rattle.event_log.proofs.Placing.{is_kept}
use Rattle.event_log.proofs.all_histories.Histories.value.Goals as goal

pub value-requires : goal.value-requires
value-requires c =
    let kept = is_kept c.self.inside.all.items c.self.inside.each.items c.args.self.now c.args.process c.index.result.now c.self.invariant c.self.view_is c.requires.process c.index.ensures in
    record { state = omega (arith, c.requires.state, kept.events); there = omega (arith, c.requires.variable, kept.width) }

pub returns : goal.returns
returns c =
    let h = c.index.result.now in
    let all = c.self.inside.all.items in
    let kept = is_kept all c.self.inside.each.items c.args.self.now c.args.process h c.self.invariant c.self.view_is c.requires.process c.index.ensures in
    let there = history_value h.width h.values (events_at all h.places) c.args.position c.args.variable kept.placed.rows
    (omega (arith, c.requires.state, ap (λ (v : HistoryView). length v.events) kept.is)) (omega (arith, c.requires.variable, kept.width)) in
    let read : c.value.result ≡ get_or (get_or (states_in (get_or c.args.self.now c.args.process nothing)) c.args.position []) c.args.variable (pos 0) =
    c.value.ensures ∙ there.value ∙ ap (λ (v : HistoryView). get_or (get_or (states_in v) c.args.position []) c.args.variable (pos 0)) (sym kept.is) in
    grind (arith, to_z-of_z, read)
