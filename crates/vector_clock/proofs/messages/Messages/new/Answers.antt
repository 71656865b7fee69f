use Rattle.std.proofs.Common.{◌∙◌, ap, sym}
use Rattle.vector_clock.specs.declared.places.Met.{Met}
use Rattle.vector_clock.proofs.FirstPlaces.{none_first}
use Rattle.vector_clock.proofs.MessageLaws.{sent_key, received_key}
use Rattle.vector_clock.proofs.messages.Messages.new.Goals as goal

pub returns : goal.returns
returns c = λ procs. record {
  sent = λ m. ap (λ (x : Met). x.sent) (c.new.ensures m) ∙ sym (none_first sent_key (λ n. n.sender) procs m);
  received = λ m. ap (λ (x : Met). x.received) (c.new.ensures m) ∙ sym (none_first received_key (λ n. n.receiver) procs m);
}
