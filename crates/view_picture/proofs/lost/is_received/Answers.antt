use Rattle.std.proofs.Common.{◌≡◌, ℕ, ◌+◌, ◌-◌, Bool, length, map, get_or, sym, ◌∙◌, arith}
use Rattle.pota_base.specs.declared.shape.EventId.{EventId}
use Rattle.view_parts.specs.Parts.{event_at}
use Rattle.view_picture.specs.Drawing.{is_receipt}
use Rattle.view_picture.proofs.Behind.{found_behind, found_before}
use Rattle.view_picture.proofs.lost.is_received.Goals as goal

pub returns-then-is_received_among : goal.returns-then-is_received_among
returns-then-is_received_among c =
    let p : EventId → Bool = λ e. is_receipt c.args.send.process c.args.id (event_at c.args.states.now e).kind in
    let all : ℕ = get_or (map length c.args.states.now.events) c.args.receiver 0 in
    let known : ℕ = c.min-known.result in
    let behind : ℕ = c.count_of-count.result - known in
    let whole : known + behind ≡ all = omega (arith, c.count_of-count.ensures, c.min-known.ensures) in
    c.if-is_received_among.true ∙ sym (found_behind p c.args.receiver known behind all whole (sym c.is_received_among.ensures ∙ c.if-is_received_among.true))

pub returns-else-is_received_among : goal.returns-else-is_received_among
returns-else-is_received_among c =
    let p : EventId → Bool = λ e. is_receipt c.args.send.process c.args.id (event_at c.args.states.now e).kind in
    let all : ℕ = get_or (map length c.args.states.now.events) c.args.receiver 0 in
    let known : ℕ = c.min-known.result in
    let behind : ℕ = c.count_of-count.result - known in
    let whole : known + behind ≡ all = omega (arith, c.count_of-count.ensures, c.min-known.ensures) in
    c.is_received_among-else-is_received_among.ensures ∙ sym (found_before p c.args.receiver known behind all whole (sym c.is_received_among.ensures ∙ c.if-is_received_among.false))
