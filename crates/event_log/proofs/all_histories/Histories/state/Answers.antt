use Rattle.std.proofs.Common.{◌∙◌, arith, ap, length, get_or, [], sym}
use Rattle.event_log.specs.States.{HistoryView, states_in}
use Rattle.event_log.specs.inside.Places.{events_at}
use Rattle.event_log.proofs.Histories.{history_state}
use Rattle.event_log.proofs.Placing.{is_kept}
use Rattle.event_log.proofs.all_histories.Histories.state.Goals as goal

pub state-requires : goal.state-requires
state-requires c =
    let kept = is_kept c.self.inside.all.items c.self.inside.each.items c.args.self.now c.args.process c.index.result.now c.self.invariant c.self.view_is c.requires.process c.index.ensures in
    omega (arith, c.requires.state, kept.events)

pub returns : goal.returns
returns c =
    let h = c.index.result.now in
    let all = c.self.inside.all.items in
    let kept = is_kept all c.self.inside.each.items c.args.self.now c.args.process h c.self.invariant c.self.view_is c.requires.process c.index.ensures in
    let there = history_state h.width h.values (events_at all h.places) c.args.position kept.placed.rows
    (omega (arith, c.requires.state, ap (λ (v : HistoryView). length v.events) kept.is)) in
    c.state.ensures ∙ there.state ∙ ap (λ (v : HistoryView). get_or (states_in v) c.args.position []) (sym kept.is)
