-- What an event looks back on stays as events come, and so does its clock.
use Rattle.std.proofs.Common.{◌≡◌, ℕ, length, sym, ap, ◌∙◌, arith, inl, inr}
use Rattle.std.specs.Prelude.{Some}
use Rattle.run_model.specs.Cut.{Cut, count}
use Rattle.event_log.specs.declared.log.Event.{Event}
use Rattle.greatest_reach.proofs.Backs.{Agrees, same_within}
use Rattle.vector_clock.specs.declared.message.Message.{Message}
use Rattle.vector_clock.specs.Events.{Events, own_events}
use Rattle.vector_clock.specs.Messages.{message_received, first_send}
use Rattle.vector_clock.specs.Fill.{Place, IsThere, event_at, Links, Gives, HasClockOf}
use Rattle.clock_laws.proofs.Own.{Grows, there_on, event_on}

-- ---- one event that is among other events too

-- the place is one of an event among the others, with the same clock and kind
pub record HasSame (one other : Events) (x : Place) : Type 0 where
  pub there : IsThere other x
  pub clock : (event_at other x).clock ≡ (event_at one x).clock
  pub kind : (event_at other x).kind ≡ (event_at one x).kind

pub by_event : (one other : Events) (x : Place) → IsThere other x → event_at other x ≡ event_at one x → HasSame one other x
by_event one other x there same = record { there = there; clock = ap (λ (e : Event). e.clock) same; kind = ap (λ (e : Event). e.kind) same }

pub gives_same : (one other : Events) (j : ℕ) (x : Place) (n : ℕ) → HasSame one other x → Gives one j x n → Gives other j x n
gives_same one other j x n same (inl w) = inl ((same.there, λ out. w.0.1 (sym same.clock ∙ out)), w.1 ∙ ap (λ (c : Cut). count c j) (sym same.clock))
gives_same one other j x n same (inr o) = inr ((same.there, same.clock ∙ o.0.1), o.1, o.2)

pub links_same : (one other : Events) (among now : Place → Events) (x y : Place) → HasSame one other x
    → ((m : Message) → message_received x.process (event_at one x).kind ≡ Some m → first_send (now x) m ≡ first_send (among x) m)
    → Links one among x y → Links other now x y
links_same one other among now x y same sends l = record {
  left_out = (same.there, same.clock ∙ l.left_out.1);
  to = elim l.to [
    | inl before ↦ inl before
    | inr send ↦ inr (record {
      message = send.message;
      received = ap (message_received x.process) same.kind ∙ send.received;
      sender = send.sender;
      sent = sends send.message send.received ∙ send.sent;
    })
  ];
}

-- ---- all events before

-- the first send of a message is one of these events, and for a receipt among these it stays the
-- first
pub record KeepsSends (old : Events) (among now : Place → Events) : Type 0 where
  pub within : (x : Place) (m : Message) (a : ℕ) → IsThere old x → first_send (among x) m ≡ Some a → IsThere old (record { process = m.sender; position = a })
  pub stays : (x : Place) (m : Message) → IsThere old x → message_received x.process (event_at old x).kind ≡ Some m → first_send (now x) m ≡ first_send (among x) m

module _ (old new : Events) (among now : Place → Events) (grows : Grows old new) (keeps : KeepsSends old among now) where
  stays : (x y : Place) → IsThere old x → Links old among x y → IsThere old y
  stays x y there l = elim l.to [
    | inl b ↦ record {
      process = omega (arith, there.process, b.process);
      first = b.there;
      last = omega (arith, b.position, there.last, ap (λ (p : ℕ). length (own_events old p)) b.process);
    }
    | inr s ↦
        let at = keeps.within x s.message y.position there s.sent in
        record {
          process = omega (arith, at.process, s.sender);
          first = at.first;
          last = omega (arith, at.last, ap (λ (p : ℕ). length (own_events old p)) s.sender);
        }
  ]

  forth : (x : Place) → IsThere old x → HasSame old new x
  forth x there = by_event old new x (there_on old new x grows there) (event_on old new x grows there)

  back : (x : Place) → IsThere old x → HasSame new old x
  back x there = by_event new old x there (sym (event_on old new x grows there))

  agrees : (j : ℕ) → Agrees (Links old among) (Links new now) (Gives old j) (Gives new j) (IsThere old)
  agrees j = record {
    stays = stays;
    link = λ x y there l. links_same old new among now x y (forth x there) (λ m is. keeps.stays x m there is) l;
    linked = λ x y there l. links_same new old now among x y (back x there) (λ m is. sym (keeps.stays x m there (ap (message_received x.process) (back x there).kind ∙ is))) l;
    gives = λ x n there g. gives_same old new j x n (forth x there) g;
    given = λ x n there g. gives_same new old j x n (back x there) g;
  }

  pub clock_stays : (x : Place) (c : Cut) → IsThere old x → HasClockOf old among x c → HasClockOf new now x c
  clock_stays x c there has = record {
    width = has.width ∙ sym grows.count;
    counts = λ j below. same_within (Links old among) (Links new now) (Gives old j) (Gives new j) (IsThere old) (agrees j) x (count c j) there (has.counts j (omega (arith, below, grows.count)));
  }
