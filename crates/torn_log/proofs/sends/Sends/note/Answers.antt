use Rattle.std.proofs.Common.{◌∙◌, ap, sym}
use Rattle.std.proofs.lemmas.Result.{on_ok_weaker}
use Rattle.std.specs.Prelude.{Some}
use Rattle.event_log.specs.declared.log.Kind.{Kind}
use Rattle.vector_clock.specs.declared.message.Message.{Message}
use Rattle.vector_clock.specs.Messages.{message_sent}
use Rattle.vector_clock.proofs.FirstPlaces.{none_noted, noted}
use Rattle.vector_clock.proofs.MessageLaws.{sent_key}
use Rattle.torn_log.specs.Sends.{place_in}
use Rattle.torn_log.proofs.sends.Sends.note.Goals as goal

pub returns-in-Send : goal.returns-in-Send
returns-in-Send c =
    let e = c.args.event.now in
    on_ok_weaker c.keep.result (λ made. λ events has lt at.
    noted sent_key (λ n. n.sender) events e c.new.result c.args.place (place_in c.args.self.now) (place_in c.keep.new.self) lt
    (ap (λ (k : Kind). message_sent e.process k) c.in-Send.is ∙ ap (λ (m : Message). Some m) (sym c.new.ensures)) (ap (λ (m : Message). m.sender) c.new.ensures) at has made) c.keep.ensures

pub returns-in-Internal : goal.returns-in-Internal
returns-in-Internal c = λ events has lt at m. has m ∙ sym (none_noted sent_key (λ n. n.sender) events c.args.event.now lt (ap (λ (k : Kind). message_sent c.args.event.now.process k) c.in-Internal.is) m)

pub returns-in-Receive : goal.returns-in-Receive
returns-in-Receive c = λ events has lt at m. has m ∙ sym (none_noted sent_key (λ n. n.sender) events c.args.event.now lt (ap (λ (k : Kind). message_sent c.args.event.now.process k) c.in-Receive.is) m)
