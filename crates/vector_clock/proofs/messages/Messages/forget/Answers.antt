use Rattle.std.proofs.Common.{◌∙◌, ap, sym}
use Rattle.std.specs.Prelude.{Some}
use Rattle.event_log.specs.declared.log.Kind.{Kind}
use Rattle.vector_clock.specs.declared.message.Message.{Message}
use Rattle.vector_clock.specs.declared.places.Met.{Met}
use Rattle.vector_clock.specs.Messages.{message_sent, message_received}
use Rattle.vector_clock.specs.Met.{met_at}
use Rattle.vector_clock.proofs.FirstPlaces.{none_noted, forgotten, place_removed, none_removed}
use Rattle.vector_clock.proofs.MessageLaws.{sent_key, received_key, nothing_forgotten}
use Rattle.vector_clock.proofs.messages.Messages.forget.Goals as goal

pub returns-in-Internal : goal.returns-in-Internal
returns-in-Internal c = λ events has lt at. nothing_forgotten c.args.self.now events c.args.event.now has lt
    (ap (λ (k : Kind). message_sent c.args.event.now.process k) c.in-Internal.is) (ap (λ (k : Kind). message_received c.args.event.now.process k) c.in-Internal.is)

pub returns-in-Send : goal.returns-in-Send
returns-in-Send c = λ events has lt at.
    let old = c.args.self.now.places in
    let new = c.forget.new.self in
    let n = c.new-message.result in
    record {
      sent = forgotten sent_key (λ n. n.sender) events c.args.event.now n c.args.place (λ m. (met_at old m).sent) (λ m. (met_at new m).sent) lt
          (ap (λ (k : Kind). message_sent c.args.event.now.process k) c.in-Send.is ∙ ap (λ (m : Message). Some m) (sym c.new-message.ensures)) (ap (λ (m : Message). m.sender) c.new-message.ensures) at has.sent
          (place_removed (λ m. (met_at old m).sent) (λ m. (met_at new m).sent) n c.args.place c.sent_at.result.sent (ap (λ (x : Met). x.sent) c.sent_at.ensures) c.forget.ensures.sent);
      received = λ m. none_removed (λ k. (met_at old k).received) (λ k. (met_at new k).received) n c.sent_at.result.received (ap (λ (x : Met). x.received) c.sent_at.ensures) c.forget.ensures.received m
          ∙ has.received m ∙ none_noted received_key (λ k. k.receiver) events c.args.event.now lt (ap (λ (k : Kind). message_received c.args.event.now.process k) c.in-Send.is) m;
    }

pub returns-in-Receive : goal.returns-in-Receive
returns-in-Receive c = λ events has lt at.
    let old = c.args.self.now.places in
    let new = c.forget-in-Receive.new.self in
    let n = c.new-message-in-Receive.result in
    record {
      sent = λ m. none_removed (λ k. (met_at old k).sent) (λ k. (met_at new k).sent) n c.received_at.result.sent (ap (λ (x : Met). x.sent) c.received_at.ensures) c.forget-in-Receive.ensures.sent m
          ∙ has.sent m ∙ none_noted sent_key (λ k. k.sender) events c.args.event.now lt (ap (λ (k : Kind). message_sent c.args.event.now.process k) c.in-Receive.is) m;
      received = forgotten received_key (λ n. n.receiver) events c.args.event.now n c.args.place (λ m. (met_at old m).received) (λ m. (met_at new m).received) lt
          (ap (λ (k : Kind). message_received c.args.event.now.process k) c.in-Receive.is ∙ ap (λ (m : Message). Some m) (sym c.new-message-in-Receive.ensures)) (ap (λ (m : Message). m.receiver) c.new-message-in-Receive.ensures) at has.received
          (place_removed (λ m. (met_at old m).received) (λ m. (met_at new m).received) n c.args.place c.received_at.result.received (ap (λ (x : Met). x.received) c.received_at.ensures) c.forget-in-Receive.ensures.received);
    }
