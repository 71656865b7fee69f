use Rattle.std.proofs.Common.{refl, length, sym, ap, ◌∙◌}
use Rattle.std.specs.Prelude.{option_map}
use Rattle.std.proofs.lemmas.Option.{slice_get_past, slice_get_read}
use Rattle.counter_preds.specs.Falls.{fall_of}
use Rattle.counter_preds.proofs.Falling.{fall_is}
use Rattle.counter_preds.proofs.falls.first_fall.Goals as goal

pub returns-in_err-event : goal.returns-in_err-event
returns-in_err-event c =
    let past = c.in_err-event.ensures.lookup.3 in
    let first = c.first_falling.ensures in
    c.from_residual.ensures ∙ sym (ap (option_map fall_of) (slice_get_past c.args.batch.now c.first_falling.result past))
    ∙ fall_is c.args.states.now c.args.counters.now c.args.batch.now c.first_falling.result first.within first.before first.falls

pub returns : goal.returns
returns c =
    let at = c.in_ok-event.ensures.lookup.3 in
    let first = c.first_falling.ensures in
    sym (ap (option_map fall_of) (slice_get_read c.args.batch.now (length c.args.batch.now) c.first_falling.result c.in_ok-event.event.now refl at.0 (at.1 c.in_ok-event.event.now)))
    ∙ fall_is c.args.states.now c.args.counters.now c.args.batch.now c.first_falling.result first.within first.before first.falls
