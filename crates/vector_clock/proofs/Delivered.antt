-- The messages of events without a fault: no process receives one twice, and each that is received was sent in the past of its receipt.
use Rattle.std.proofs.Common.{◌≡◌, ℕ, zero, suc, ◌+◌, ◌<◌, ◌≤◌, Bool, true, false, not, ◌||◌, List, [], ◌∷◌, ◌++◌, length, take, refl, sym, ap, ◌∙◌, subst, arith, inl, inr, append_assoc, append-nil, ◌⊎◌}
use Rattle.std.specs.Prelude.{◌==◌, nat_eq, nat_lt, Option, None, Some, is_some, if◌then◌else◌}
use Rattle.std.specs.Option.{option_map}
use Rattle.std.specs.List.{AllByRecursion, IsDistinct}
use Rattle.std.specs.Set.{is_member}
use Rattle.std.specs.Cmp.{nat_eq_equiv}
use Rattle.std.proofs.lemmas.Bool.{cases_eq, eq-eqb, ne_eqb, ltb-false}
use Rattle.std.proofs.lemmas.Option.{same_Some, none-some}
use Rattle.std.proofs.lemmas.List.{length-set}
use Rattle.std.proofs.lemmas.List.Folds.{list_any-append}
use Rattle.std.proofs.lemmas.Map.Keys.{IsDistinct-push}
use Rattle.event_log.specs.PassedOn.{choose}
use Rattle.event_log.specs.declared.log.Kind.{Kind}
use Rattle.event_log.specs.declared.log.Kind.TheVariants as kind
use Rattle.event_log.specs.declared.log.Event.{Event}
use Rattle.event_log.specs.declared.item.LogCode.{LogCode}
use Rattle.event_log.specs.declared.item.LogCode.TheVariants as code
use Rattle.event_log.specs.States.{with_event, with_batch}
use Rattle.run_model.specs.Cut.{count}
use Rattle.vector_clock.specs.declared.message.Message.{Message}
use Rattle.vector_clock.specs.Events.{Events, EventFits, own_events, clocks_of, place}
use Rattle.vector_clock.specs.Messages.{message_sent, message_received, is_same, sends, receives, first_place, first_send, first_receipt}
use Rattle.vector_clock.specs.Faults.{is_twice, is_unsent, is_early, message_fault, clock_fault, event_fault, at_line, fault_from}
use Rattle.vector_clock.proofs.Faultless.{chosen_none, none_of}
use Rattle.vector_clock.proofs.FirstPlaces.{own_same, own_other, same_message}
use Rattle.vector_clock.proofs.MessageIds.{sent_id, received_id, ids, ids-append, in_first, in_second, member_stays}

abbrev pub message : ℕ → ℕ → ℕ → Message
message p q id = record { sender = p; receiver = q; id = id }

-- ---- the first send of a message

first_step : (b : Bool) (rest : Option ℕ) (k : ℕ) → (if b then Some 1 else option_map (λ j. j + 1) rest) ≡ Some k
    → ((b ≡ true) × (1 ≡ k)) ⊎ ((j : ℕ) × (rest ≡ Some j) × (j + 1 ≡ k))
first_step true rest k h = inl (refl, same_Some 1 k h)
first_step false None k h = absurd (none-some k h)
first_step false (Some j) k h = inr (j, refl, same_Some (j + 1) k h)

-- an event that sends the message has its number
sends_id : (p q id : ℕ) (e : Event) → sends (message p q id) e ≡ true → sent_id q e.kind ≡ id ∷ []
sends_id p q id e h = by_kind e.kind h
  where
    by_kind : (k : Kind) → choose (message_sent e.process k) (λ n. is_same n (message p q id)) false ≡ true → sent_id q k ≡ id ∷ []
    by_kind kind.Internal h = cc
    by_kind (kind.Send to i) h =
        let same = same_message (message e.process to i) (message p q id) h in
        let at : (to == q) ≡ true = eq-eqb to q (ap (λ (m : Message). m.receiver) same) in
        rw at (ap (λ (x : ℕ). x ∷ []) (ap (λ (m : Message). m.id) same))
    by_kind (kind.Receive sender i) h = cc

itself : (id : ℕ) → is_member nat_eq (id ∷ []) id ≡ true
itself id = rw (eq-eqb id id refl) refl

-- the first send within a front is there
pub first_is_there : (p q id : ℕ) (es : List Event) (k n : ℕ) → first_place (sends (message p q id)) es ≡ Some k → k ≤ n → is_member nat_eq (ids (sent_id q) (take n es)) id ≡ true
unfolding first_place
first_is_there p q id [] k n h le = absurd (none-some k h)
first_is_there p q id (e ∷ es) k zero h le = elim (first_step (sends (message p q id) e) (first_place (sends (message p q id)) es) k h) [
  | inl one ↦ absurd (omega (arith, one.1))
  | inr more ↦ absurd (omega (arith, more.2))
]
first_is_there p q id (e ∷ es) k (suc n) h le = elim (first_step (sends (message p q id) e) (first_place (sends (message p q id)) es) k h) [
  | inl one ↦ in_first (sent_id q e.kind) (ids (sent_id q) (take n es)) id (ap (λ (l : List ℕ). is_member nat_eq l id) (sends_id p q id e one.0) ∙ itself id)
  | inr more ↦ in_second (sent_id q e.kind) (ids (sent_id q) (take n es)) id (first_is_there p q id es more.0 n more.1 (omega (arith, more.2)))
]

-- ---- messages that no event before receives

no_step : (b : Bool) (rest : Option ℕ) → (if b then Some 1 else option_map (λ j. j + 1) rest) ≡ None → (b ≡ false) × (rest ≡ None)
no_step true rest h = absurd (none-some 1 (sym h))
no_step false None h = (refl, refl)
no_step false (Some j) h = absurd (none-some (j + 1) (sym h))

-- an event that doesn't receive the message doesn't have its number
receives_not : (p q id : ℕ) (e : Event) → e.process ≡ q → receives (message p q id) e ≡ false → is_member nat_eq (received_id p e.kind) id ≡ false
receives_not p q id e own h = by_kind e.kind h
  where
    apart : (b : Bool) (i : ℕ) → (b ≡ true → (i ≡ id → ⊥)) → is_member nat_eq (if b then i ∷ [] else []) id ≡ false
    apart false i h = refl
    apart true i h = rw (ne_eqb id i (λ e. h refl (sym e))) refl

    by_kind : (k : Kind) → choose (message_received e.process k) (λ n. is_same n (message p q id)) false ≡ false → is_member nat_eq (received_id p k) id ≡ false
    by_kind kind.Internal h = refl
    by_kind (kind.Send to i) h = refl
    by_kind (kind.Receive sender i) h = apart (sender == p) i (λ from same.
        let yes : is_same (message sender e.process i) (message p q id) ≡ true = rw (from, eq-eqb e.process q own, eq-eqb i id same) refl in
        cc)

pub never_received : (p q id : ℕ) (es : List Event) → AllByRecursion (λ (e : Event). e.process ≡ q) es → first_place (receives (message p q id)) es ≡ None → is_member nat_eq (ids (received_id p) es) id ≡ false
unfolding first_place
never_received p q id [] own h = refl
never_received p q id (e ∷ es) own h =
    let step = no_step (receives (message p q id) e) (first_place (receives (message p q id)) es) h in
    let here = receives_not p q id e own.0 step.0 in
    let rest = never_received p q id es own.1 step.1 in
    list_any-append (nat_eq id) (received_id p e.kind) (ids (received_id p) es) ∙ rw (here, rest) refl

-- ---- one event more

-- what the event receives was sent, and the event's clock counts a send of it
abbrev pub IsMailed : Events → ℕ → Event → Type 0
IsMailed all q e = (p id : ℕ) → e.kind ≡ kind.Receive p id → is_member nat_eq (ids (sent_id q) (take (count e.clock p) (own_events all p))) id ≡ true

-- the messages of these events, which are among all events, have no fault
pub record AreDelivered (before all : Events) : Type 0 where
  pub own : (q : ℕ) → AllByRecursion (λ (e : Event). e.process ≡ q) (own_events before q)
  pub mailed : (q : ℕ) → AllByRecursion (IsMailed all q) (own_events before q)
  pub once : (p q : ℕ) → IsDistinct nat_eq (ids (received_id p) (own_events before q))

all_pushed : (P : Event → Type 0) (es : List Event) (e : Event) → AllByRecursion P es → P e → AllByRecursion P (es ++ e ∷ [])
all_pushed P [] e all one = (one, tt)
all_pushed P (x ∷ es) e all one = (all.0, all_pushed P es e all.1 one)

-- what holds of the events of each process, where it holds of one more
own_pushed : (P : ℕ → List Event → Type 0) (before : Events) (e : Event) → e.process < length before → ((q : ℕ) → P q (own_events before q)) → P e.process (own_events before e.process ++ e ∷ [])
    → (q : ℕ) → P q (own_events (with_event before e) q)
own_pushed P before e lt old new q = elim (cases_eq q e.process) [
  | inl same ↦ subst (λ (k : ℕ). P k (own_events (with_event before e) k)) (sym same) (subst (P e.process) (sym (own_same before e lt)) new)
  | inr other ↦ subst (P q) (sym (own_other before e q other)) (old q)
]

or_none : (a b : Bool) → (a || b) ≡ false → (a ≡ false) × (b ≡ false)
or_none true b h = cc
or_none false b h = (refl, h)

not_some : (o : Option ℕ) → is_some o ≡ false → o ≡ None
not_some None h = refl
not_some (Some k) h = cc

sent_some : (o : Option ℕ) → not (is_some o) ≡ false → (k : ℕ) × (o ≡ Some k)
sent_some None h = cc
sent_some (Some k) h = (k, refl)

-- the event receives nothing that its process received before from p
fresh : (before : Events) (e : Event) (p : ℕ) → AllByRecursion (λ (x : Event). x.process ≡ e.process) (own_events before e.process) → is_twice before e ≡ false
    → IsDistinct nat_eq (ids (received_id p) (own_events before e.process)) → IsDistinct nat_eq (ids (received_id p) (own_events before e.process ++ e ∷ []))
fresh before e p own twice distinct =
    subst (IsDistinct nat_eq) (sym (ids-append (received_id p) (own_events before e.process) (e ∷ []) ∙ ap (λ (l : List ℕ). seen ++ l) (append-nil (received_id p e.kind))))
    (by_kind e.kind (or_none _ _ twice).1)
  where
    seen : List ℕ
    seen = ids (received_id p) (own_events before e.process)

    unmoved : IsDistinct nat_eq (seen ++ [])
    unmoved = subst (IsDistinct nat_eq) (sym (append-nil seen)) distinct

    by_kind : (k : Kind) → choose (message_received e.process k) (λ m. is_some (first_receipt before m)) false ≡ false → IsDistinct nat_eq (seen ++ received_id p k)
    by_kind kind.Internal h = unmoved
    by_kind (kind.Send to id) h = unmoved
    by_kind (kind.Receive sender id) h = elim (cases_eq sender p) [
      | inr other ↦ subst (λ (b : Bool). IsDistinct nat_eq (seen ++ (if b then id ∷ [] else []))) (sym (ne_eqb sender p other)) unmoved
      | inl same ↦
          let none : first_place (receives (message p e.process id)) (own_events before e.process) ≡ None =
          ap (λ (s : ℕ). first_place (receives (message s e.process id)) (own_events before e.process)) (sym same) ∙ not_some _ h in
          let new : is_member nat_eq seen id ≡ false = never_received p e.process id (own_events before e.process) own none in
          subst (λ (b : Bool). IsDistinct nat_eq (seen ++ (if b then id ∷ [] else []))) (sym (eq-eqb sender p same)) (IsDistinct-push nat_eq_equiv seen id distinct new)
    ]

-- what an event without a fault receives was sent in its past
mailed_now : (all : Events) (e : Event) → is_unsent all e ≡ false → is_early all e ≡ false → IsMailed all e.process e
mailed_now all e unsent early p id is =
    let sent = sent_some (first_send all (message p e.process id)) (ap (λ (k : Kind). choose (message_received e.process k) (λ m. not (is_some (first_send all m))) false) (sym is) ∙ unsent) in
    let late : nat_lt (count e.clock p) sent.0 ≡ false =
    ap (λ (o : Option ℕ). choose o (λ a. nat_lt (count e.clock p) a) false) (sym sent.1)
    ∙ ap (λ (k : Kind). choose (message_received e.process k) (λ m. choose (first_send all m) (λ a. nat_lt (count e.clock m.sender) a) false) false) (sym is) ∙ early in
    first_is_there p e.process id (own_events all p) sent.0 (count e.clock p) sent.1 (ltb-false (count e.clock p) sent.0 late)

pub one_delivered : (before all : Events) (e : Event) → AreDelivered before all → e.process < length before → message_fault before all e ≡ None → AreDelivered (with_event before e) all
one_delivered before all e old lt none =
    let twice = none_of (is_twice before e) code.MessageTwice _ none in
    let unsent = none_of (is_unsent all e) code.ReceiveUnsent _ twice.1 in
    let early = none_of (is_early all e) code.ReceiveEarly None unsent.1 in
    record {
      own = own_pushed (λ q es. AllByRecursion (λ (x : Event). x.process ≡ q) es) before e lt old.own (all_pushed _ (own_events before e.process) e (old.own e.process) refl);
      mailed = own_pushed (λ q es. AllByRecursion (IsMailed all q) es) before e lt old.mailed (all_pushed _ (own_events before e.process) e (old.mailed e.process) (mailed_now all e unsent.0 early.0));
      once = λ p. own_pushed (λ q es. IsDistinct nat_eq (ids (received_id p) es)) before e lt (old.once p) (fresh before e p (old.own e.process) twice.0 (old.once p e.process));
    }

-- ---- many events

pub batch_delivered : (before all : Events) (batch : List Event) → AreDelivered before all → AllByRecursion (EventFits (length before)) batch → fault_from before all batch ≡ None
    → AreDelivered (with_batch before batch) all
unfolding fault_from with_batch
batch_delivered before all [] old fits none = old
batch_delivered before all (e ∷ batch) old fits none =
    let parts = chosen_none (event_fault before all e) (at_line e) (fault_from (with_event before e) all batch) none in
    let message_none = (chosen_none (clock_fault (clocks_of all) (place before e) e) (λ (f : LogCode). f) (message_fault before all e) parts.0).1 in
    batch_delivered (with_event before e) all batch (one_delivered before all e old fits.0.clock.process message_none)
    (subst (λ (n : ℕ). AllByRecursion (EventFits n) batch) (sym (length-set before e.process _)) fits.1) parts.1

-- the events of each process are the old ones with more behind them
abbrev pub HaveGrown : Events → Events → Type 0
HaveGrown old new = (p : ℕ) → (more : List Event) × (own_events new p ≡ own_events old p ++ more)

pub events_grow : (events : Events) (batch : List Event) → AllByRecursion (EventFits (length events)) batch → HaveGrown events (with_batch events batch)
unfolding with_batch
events_grow events [] fits p = ([], sym (append-nil (own_events events p)))
events_grow events (e ∷ batch) fits p =
    let rest = events_grow (with_event events e) batch (subst (λ (n : ℕ). AllByRecursion (EventFits n) batch) (sym (length-set events e.process _)) fits.1) p in
    elim (cases_eq p e.process) [
      | inl same ↦ (
        e ∷ rest.0,
        rest.1
            ∙ ap (λ (es : List Event). es ++ rest.0) (ap (own_events (with_event events e)) same ∙ own_same events e fits.0.clock.process ∙ ap (λ (k : ℕ). own_events events k ++ e ∷ []) (sym same))
            ∙ append_assoc (own_events events p) (e ∷ []) rest.0,
      )
      | inr other ↦ (rest.0, rest.1 ∙ ap (λ (es : List Event). es ++ rest.0) (own_other events e p other))
    ]

mailed_along : (all more : Events) (q : ℕ) (es : List Event) → HaveGrown all more → AllByRecursion (IsMailed all q) es → AllByRecursion (IsMailed more q) es
mailed_along all more q [] grown mailed = tt
mailed_along all more q (e ∷ es) grown mailed = (one, mailed_along all more q es grown mailed.1)
  where
    one : IsMailed more q e
    one p id is =
        let n = count e.clock p in
        ap (λ (xs : List Event). is_member nat_eq (ids (sent_id q) (take n xs)) id) (grown p).1
        ∙ member_stays (sent_id q) (own_events all p) (grown p).0 n n id (omega arith) (mailed.0 p id is)

pub delivered_along : (before all more : Events) → HaveGrown all more → AreDelivered before all → AreDelivered before more
delivered_along before all more grown old = record {
  own = old.own;
  mailed = λ q. mailed_along all more q (own_events before q) grown (old.mailed q);
  once = old.once;
}
