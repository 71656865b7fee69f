use Rattle.std.proofs.Common.{sym, ◌∙◌}
use Rattle.event_log.proofs.Histories.{when_ok, items_when_ok}
use Rattle.event_log.proofs.Placing.{rows_more}
use Rattle.event_log.proofs.history.History.push.Goals as goal

pub invariant_of-self-else-is_err-2 : goal.invariant_of-self-else-is_err-2
invariant_of-self-else-is_err-2 c =
    let rows = when_ok c.push_state.result _ c.push_state.ensures.ok (sym c.is_err.ensures.value ∙ c.if-is_err.false) in
    let places = items_when_ok c.push.result _ c.self.inside.places.items c.args.place c.push.ensures.items (sym c.is_err-2.ensures.value ∙ c.if-is_err-2.false) in
    rw (places, rows) (rows_more c.self.inside.width c.args.place c.self.inside.places.items c.self.inside.values.items _ c.self.invariant)
