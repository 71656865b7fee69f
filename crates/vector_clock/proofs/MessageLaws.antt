-- The faults of a message by what is kept of the messages of all events.
use Rattle.std.proofs.Common.{◌≡◌, ℕ, ◌<◌, Bool, true, false, not, ◌||◌, length, refl, sym, ap, ◌∙◌, arith, inl, inr}
use Rattle.std.specs.Prelude.{Option, None, Some, is_some, nat_lt, if◌then◌else◌}
use Rattle.std.specs.Option.{unwrap_or}
use Rattle.std.proofs.lemmas.Bool.{cases_Bool, cond-true, cond-false, eq-eqb, ne_eqb}
use Rattle.event_log.specs.PassedOn.{choose}
use Rattle.run_model.specs.Cut.{count}
use Rattle.event_log.specs.declared.item.LogCode.{LogCode}
use Rattle.event_log.specs.declared.item.LogCode.TheVariants as code
use Rattle.event_log.specs.declared.log.Event.{Event}
use Rattle.event_log.specs.States.{with_event}
use Rattle.vector_clock.specs.declared.message.Message.{Message}
use Rattle.vector_clock.specs.declared.messages.Messages.{Messages}
use Rattle.vector_clock.specs.declared.places.Met.{Met}
use Rattle.vector_clock.specs.Events.{Events}
use Rattle.vector_clock.specs.Messages.{message_sent, message_received, first_send, first_receipt}
use Rattle.vector_clock.specs.Faults.{is_twice, is_unsent, is_early, message_fault}
use Rattle.vector_clock.specs.Met.{met_at}
use Rattle.vector_clock.specs.inside.Met.{HaveSame, is_place}
use Rattle.vector_clock.specs.Admitted.{HasMessages}
use Rattle.vector_clock.specs.inside.Admitted.{StandsIn}
use Rattle.vector_clock.proofs.FirstPlaces.{Key, none_noted, kept_for, before_is_less}

abbrev pub sent_key : Key
sent_key e = message_sent e.process e.kind

abbrev pub received_key : Key
received_key e = message_received e.process e.kind

-- ---- sent, or received, before

again : (first kept : Option ℕ) (a : ℕ) → kept ≡ Some (unwrap_or first a) → ((k : ℕ) → first ≡ Some k → k < a) → not (is_place a kept) ≡ is_some first
again None kept a h low = ap (λ (o : Option ℕ). not (is_place a o)) h ∙ ap not (eq-eqb a a refl)
again (Some k) kept a h low = ap (λ (o : Option ℕ). not (is_place a o)) h ∙ ap not (ne_eqb k a (λ q. absurd (omega (arith, low k refl))))

or_false : (b : Bool) → (b || false) ≡ b
or_false true = refl
or_false false = refl

pub sent_again : (messages : Messages) (before all : Events) (e : Event) (n : Message) (a : ℕ) (at : Bool) (kept : Option ℕ) → HasMessages messages all → StandsIn before all e a
    → sent_key e ≡ Some n → received_key e ≡ None → n.sender ≡ e.process → kept ≡ first_send all n → at ≡ is_place a kept → not at ≡ is_twice before e
sent_again messages before all e n a at kept has stands is none own keeps test =
    ap not test ∙ again (first_send before n) kept a (keeps ∙ kept_for sent_key (λ m. m.sender) before all e n a stands is own) (λ k h. before_is_less sent_key (λ m. m.sender) before all e n a k stands own h)
    ∙ sym (ap (λ (o : Option Message). choose o (λ m. is_some (first_send before m)) false || choose (received_key e) (λ m. is_some (first_receipt before m)) false) is
    ∙ ap (λ (o : Option Message). is_some (first_send before n) || choose o (λ m. is_some (first_receipt before m)) false) none ∙ or_false (is_some (first_send before n)))

pub received_again : (messages : Messages) (before all : Events) (e : Event) (n : Message) (a : ℕ) (at : Bool) (kept : Option ℕ) → HasMessages messages all → StandsIn before all e a
    → received_key e ≡ Some n → sent_key e ≡ None → n.receiver ≡ e.process → kept ≡ first_receipt all n → at ≡ is_place a kept → not at ≡ is_twice before e
received_again messages before all e n a at kept has stands is none own keeps test =
    ap not test ∙ again (first_receipt before n) kept a (keeps ∙ kept_for received_key (λ m. m.receiver) before all e n a stands is own) (λ k h. before_is_less received_key (λ m. m.receiver) before all e n a k stands own h)
    ∙ sym (ap (λ (o : Option Message). choose o (λ m. is_some (first_send before m)) false || choose (received_key e) (λ m. is_some (first_receipt before m)) false) none
    ∙ ap (λ (o : Option Message). choose o (λ m. is_some (first_receipt before m)) false) is)

pub never_again : (before : Events) (e : Event) → sent_key e ≡ None → received_key e ≡ None → false ≡ is_twice before e
never_again before e none other =
    sym (ap (λ (o : Option Message). choose o (λ m. is_some (first_send before m)) false || choose (received_key e) (λ m. is_some (first_receipt before m)) false) none
    ∙ ap (λ (o : Option Message). choose o (λ m. is_some (first_receipt before m)) false) other)

-- ---- the first fault

pub twice_fault : (before all : Events) (e : Event) → is_twice before e ≡ true → Some code.MessageTwice ≡ message_fault before all e
twice_fault before all e h = sym (cond-true (is_twice before e) _ _ h)

pub nothing_received : (before all : Events) (e : Event) → is_twice before e ≡ false → received_key e ≡ None → None ≡ message_fault before all e
nothing_received before all e h none = sym (cond-false (is_twice before e) _ _ h
    ∙ cond-false (is_unsent all e) _ _ (ap (λ (o : Option Message). choose o (λ m. not (is_some (first_send all m))) false) none)
    ∙ cond-false (is_early all e) _ _ (ap (λ (o : Option Message). choose o (λ m. choose (first_send all m) (λ a. nat_lt (count e.clock m.sender) a) false) false) none))

pub unsent_fault : (before all : Events) (e : Event) (m : Message) → is_twice before e ≡ false → received_key e ≡ Some m → first_send all m ≡ None → Some code.ReceiveUnsent ≡ message_fault before all e
unsent_fault before all e m h is none = sym (cond-false (is_twice before e) _ _ h
    ∙ cond-true (is_unsent all e) _ _ (ap (λ (o : Option Message). choose o (λ n. not (is_some (first_send all n))) false) is ∙ ap (λ (o : Option ℕ). not (is_some o)) none))

pub sent_fault : (before all : Events) (e : Event) (m : Message) (a : ℕ) → is_twice before e ≡ false → received_key e ≡ Some m → first_send all m ≡ Some a
    → (if nat_lt (count e.clock m.sender) a then Some code.ReceiveEarly else None) ≡ message_fault before all e
sent_fault before all e m a h is first = sym (cond-false (is_twice before e) _ _ h
    ∙ cond-false (is_unsent all e) _ _ (ap (λ (o : Option Message). choose o (λ n. not (is_some (first_send all n))) false) is ∙ ap (λ (o : Option ℕ). not (is_some o)) first)
    ∙ ap (λ (b : Bool). if b then Some code.ReceiveEarly else None)
    (ap (λ (o : Option Message). choose o (λ n. choose (first_send all n) (λ k. nat_lt (count e.clock n.sender) k) false) false) is ∙ ap (λ (o : Option ℕ). choose o (λ k. nat_lt (count e.clock m.sender) k) false) first))

-- ---- what an event adds, and what goes with it

pub nothing_noted : (messages : Messages) (events : Events) (e : Event) → HasMessages messages events → e.process < length events → sent_key e ≡ None → received_key e ≡ None → HasMessages messages (with_event events e)
nothing_noted messages events e has lt none other = record {
  sent = λ m. has.sent m ∙ sym (none_noted sent_key (λ n. n.sender) events e lt none m);
  received = λ m. has.received m ∙ sym (none_noted received_key (λ n. n.receiver) events e lt other m);
}

pub nothing_forgotten : (messages : Messages) (events : Events) (e : Event) → HasMessages messages (with_event events e) → e.process < length events → sent_key e ≡ None → received_key e ≡ None → HasMessages messages events
nothing_forgotten messages events e has lt none other = record {
  sent = λ m. has.sent m ∙ none_noted sent_key (λ n. n.sender) events e lt none m;
  received = λ m. has.received m ∙ none_noted received_key (λ n. n.receiver) events e lt other m;
}

pub same_messages : (old new : Messages) (events : Events) → HasMessages old events → HaveSame (met_at new.places) (met_at old.places) → HasMessages new events
same_messages old new events has kept = record {
  sent = λ m. ap (λ (x : Met). x.sent) (kept m) ∙ has.sent m;
  received = λ m. ap (λ (x : Met). x.received) (kept m) ∙ has.received m;
}

-- ---- the fault of a message, by its places

pub sent_is : (messages : Messages) (before all : Events) (e : Event) (n : Message) (a : ℕ) (met : Met) → HasMessages messages all → StandsIn before all e a → sent_key e ≡ Some n → received_key e ≡ None → n.sender ≡ e.process
    → met ≡ met_at messages.places n → (if is_place a met.sent then None else Some code.MessageTwice) ≡ message_fault before all e
sent_is messages before all e n a met has stands is none own at =
    let test = sent_again messages before all e n a (is_place a met.sent) met.sent has stands is none own (ap (λ (x : Met). x.sent) at ∙ has.sent n) refl in
    elim (cases_Bool (is_place a met.sent)) [
      | inl here ↦ cond-true (is_place a met.sent) _ _ here ∙ nothing_received before all e (sym test ∙ ap not here) none
      | inr other ↦ cond-false (is_place a met.sent) _ _ other ∙ twice_fault before all e (sym test ∙ ap not other)
    ]

abbrev sent_or_fault : ℕ → Option ℕ → Option LogCode
sent_or_fault n sent = choose sent (λ a. if nat_lt n a then Some code.ReceiveEarly else None) (Some code.ReceiveUnsent)

not_twice : (before all : Events) (e : Event) (m : Message) (sent : Option ℕ) → is_twice before e ≡ false → received_key e ≡ Some m → first_send all m ≡ sent → sent_or_fault (count e.clock m.sender) sent ≡ message_fault before all e
not_twice before all e m None h is first = unsent_fault before all e m h is first
not_twice before all e m (Some a) h is first = sent_fault before all e m a h is first

pub received_is : (messages : Messages) (before all : Events) (e : Event) (n : Message) (a s : ℕ) (met : Met) → HasMessages messages all → StandsIn before all e a → received_key e ≡ Some n → sent_key e ≡ None → n.receiver ≡ e.process → n.sender ≡ s
    → met ≡ met_at messages.places n → (if is_place a met.received then sent_or_fault (count e.clock s) met.sent else Some code.MessageTwice) ≡ message_fault before all e
received_is messages before all e n a s met has stands is none own sender at =
    let test = received_again messages before all e n a (is_place a met.received) met.received has stands is none own (ap (λ (x : Met). x.received) at ∙ has.received n) refl in
    elim (cases_Bool (is_place a met.received)) [
      | inl here ↦ cond-true (is_place a met.received) _ _ here ∙ ap (λ (k : ℕ). sent_or_fault (count e.clock k) met.sent) (sym sender)
          ∙ not_twice before all e n met.sent (sym test ∙ ap not here) is (sym (ap (λ (x : Met). x.sent) at ∙ has.sent n))
      | inr other ↦ cond-false (is_place a met.received) _ _ other ∙ twice_fault before all e (sym test ∙ ap not other)
    ]
