use Rattle.std.proofs.Common.{◌≡◌, ◌+◌, Bool, sym, ap, ◌∙◌}
use Rattle.pota_base.specs.declared.shape.EventId.{EventId}
use Rattle.event_log.specs.declared.log.Event.{Event}
use Rattle.view_parts.specs.Parts.{event_at, place}
use Rattle.view_picture.specs.Drawing.{is_receipt}
use Rattle.view_picture.proofs.Behind.{one_found}
use Rattle.view_picture.proofs.lost.is_received_among.Goals as goal

pub returns-then-is_receipt : goal.returns-then-is_receipt
returns-then-is_receipt c =
    let p : EventId → Bool = λ e. is_receipt c.args.sender c.args.id (event_at c.args.states.now e).kind in
    let found : EventId = place c.args.receiver (c.args.first + c.loop-k.k + 1) in
    let told : c.is_receipt.result ≡ p found = c.is_receipt.ensures ∙ ap (λ (e : Event). is_receipt c.args.sender c.args.id e.kind) c.event_at.ensures in
    sym (one_found p c.args.receiver c.args.first c.args.count c.loop-k.k c.loop-k-test.true (sym told ∙ c.if-is_receipt.true))
