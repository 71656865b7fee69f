use Rattle.std.proofs.Common.{◌∙◌, ap, sym}
use Rattle.std.proofs.lemmas.Result.{on_ok_weaker, on_err_weaker}
use Rattle.std.specs.Prelude.{Some}
use Rattle.event_log.specs.declared.log.Kind.{Kind}
use Rattle.vector_clock.specs.declared.message.Message.{Message}
use Rattle.vector_clock.specs.declared.places.Met.{Met}
use Rattle.vector_clock.specs.Messages.{message_sent, message_received}
use Rattle.vector_clock.specs.Met.{met_at}
use Rattle.vector_clock.proofs.FirstPlaces.{none_noted, noted, place_added, none_added}
use Rattle.vector_clock.proofs.MessageLaws.{sent_key, received_key, nothing_noted, same_messages}
use Rattle.vector_clock.proofs.messages.Messages.note.Goals as goal

pub returns-in-Internal-clause-ok : goal.returns-in-Internal-clause-ok
returns-in-Internal-clause-ok c = λ events has lt at. nothing_noted c.args.self.now events c.args.event.now has lt
    (ap (λ (k : Kind). message_sent c.args.event.now.process k) c.in-Internal.is) (ap (λ (k : Kind). message_received c.args.event.now.process k) c.in-Internal.is)

pub returns-in-Send-clause-ok : goal.returns-in-Send-clause-ok
returns-in-Send-clause-ok c =
    let old = c.args.self.now.places in
    let new = c.note.new.self in
    let n = c.new-message.result in
    on_ok_weaker c.note.result (λ made. λ events has lt at. record {
      sent = noted sent_key (λ n. n.sender) events c.args.event.now n c.args.place (λ m. (met_at old m).sent) (λ m. (met_at new m).sent) lt
          (ap (λ (k : Kind). message_sent c.args.event.now.process k) c.in-Send.is ∙ ap (λ (m : Message). Some m) (sym c.new-message.ensures)) (ap (λ (m : Message). m.sender) c.new-message.ensures) at has.sent
          (place_added (λ m. (met_at old m).sent) (λ m. (met_at new m).sent) n c.args.place c.sent_at.result.sent (ap (λ (x : Met). x.sent) c.sent_at.ensures) made.sent);
      received = λ m. none_added (λ k. (met_at old k).received) (λ k. (met_at new k).received) n c.sent_at.result.received (ap (λ (x : Met). x.received) c.sent_at.ensures) made.received m
          ∙ has.received m ∙ sym (none_noted received_key (λ k. k.receiver) events c.args.event.now lt (ap (λ (k : Kind). message_received c.args.event.now.process k) c.in-Send.is) m);
    }) c.note.ensures.ok

pub returns-in-Receive-clause-ok : goal.returns-in-Receive-clause-ok
returns-in-Receive-clause-ok c =
    let old = c.args.self.now.places in
    let new = c.note-in-Receive.new.self in
    let n = c.new-message-in-Receive.result in
    on_ok_weaker c.note-in-Receive.result (λ made. λ events has lt at. record {
      sent = λ m. none_added (λ k. (met_at old k).sent) (λ k. (met_at new k).sent) n c.received_at.result.sent (ap (λ (x : Met). x.sent) c.received_at.ensures) made.sent m
          ∙ has.sent m ∙ sym (none_noted sent_key (λ k. k.sender) events c.args.event.now lt (ap (λ (k : Kind). message_sent c.args.event.now.process k) c.in-Receive.is) m);
      received = noted received_key (λ n. n.receiver) events c.args.event.now n c.args.place (λ m. (met_at old m).received) (λ m. (met_at new m).received) lt
          (ap (λ (k : Kind). message_received c.args.event.now.process k) c.in-Receive.is ∙ ap (λ (m : Message). Some m) (sym c.new-message-in-Receive.ensures)) (ap (λ (m : Message). m.receiver) c.new-message-in-Receive.ensures) at has.received
          (place_added (λ m. (met_at old m).received) (λ m. (met_at new m).received) n c.args.place c.received_at.result.received (ap (λ (x : Met). x.received) c.received_at.ensures) made.received);
    }) c.note-in-Receive.ensures.ok

pub returns-in-Send-clause-err : goal.returns-in-Send-clause-err
returns-in-Send-clause-err c = on_err_weaker c.note.result (λ kept. λ events has. same_messages _ _ events has kept) c.note.ensures.err

pub returns-in-Receive-clause-err : goal.returns-in-Receive-clause-err
returns-in-Receive-clause-err c = on_err_weaker c.note-in-Receive.result (λ kept. λ events has. same_messages _ _ events has kept) c.note-in-Receive.ensures.err
