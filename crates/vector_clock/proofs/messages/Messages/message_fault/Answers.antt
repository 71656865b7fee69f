use Rattle.std.proofs.Common.{◌∙◌, ap, sym}
use Rattle.std.specs.Prelude.{Some}
use Rattle.event_log.specs.declared.log.Kind.{Kind}
use Rattle.vector_clock.specs.declared.message.Message.{Message}
use Rattle.vector_clock.specs.Messages.{message_sent, message_received}
use Rattle.vector_clock.proofs.MessageLaws.{never_again, nothing_received, sent_is, received_is}
use Rattle.vector_clock.proofs.messages.Messages.message_fault.Goals as goal

pub returns-in-Internal : goal.returns-in-Internal
returns-in-Internal c = λ before all has stands.
    let none = ap (λ (k : Kind). message_received c.args.event.now.process k) c.in-Internal.is in
    nothing_received before all c.args.event.now (sym (never_again before c.args.event.now (ap (λ (k : Kind). message_sent c.args.event.now.process k) c.in-Internal.is) none)) none

pub returns-in-Send : goal.returns-in-Send
returns-in-Send c = λ before all has stands. c.send_fault.ensures ∙ sent_is c.args.self.now before all c.args.event.now c.new-message.result c.args.place c.met.result has stands
    (ap (λ (k : Kind). message_sent c.args.event.now.process k) c.in-Send.is ∙ ap (λ (m : Message). Some m) (sym c.new-message.ensures)) (ap (λ (k : Kind). message_received c.args.event.now.process k) c.in-Send.is) (ap (λ (m : Message). m.sender) c.new-message.ensures) c.met.ensures

pub returns-in-Receive : goal.returns-in-Receive
returns-in-Receive c = λ before all has stands. c.receipt_fault.ensures ∙ received_is c.args.self.now before all c.args.event.now c.new-message-in-Receive.result c.args.place c.in-Receive.sender c.met-in-Receive.result has stands
    (ap (λ (k : Kind). message_received c.args.event.now.process k) c.in-Receive.is ∙ ap (λ (m : Message). Some m) (sym c.new-message-in-Receive.ensures)) (ap (λ (k : Kind). message_sent c.args.event.now.process k) c.in-Receive.is)
    (ap (λ (m : Message). m.receiver) c.new-message-in-Receive.ensures) (ap (λ (m : Message). m.sender) c.new-message-in-Receive.ensures) c.met-in-Receive.ensures
