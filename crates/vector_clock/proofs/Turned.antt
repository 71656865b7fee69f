-- The graph of a batch has the links of its events turned round.
use Rattle.std.proofs.Common.{◌≡◌, ℕ, zero, suc, ◌+◌, ◌-◌, ◌<◌, Bool, true, false, List, [], ◌∷◌, ◌++◌, length, map, get_or, refl, sym, ap, ◌∙◌, subst, arith, inl, inr, length-append, append_assoc, append-nil}
use Rattle.std.specs.Prelude.{Option, None, Some, ◌&&◌, nat_lt, nat_le, if◌then◌else◌}
use Rattle.std.specs.Option.{option_map, unwrap_or}
use Rattle.std.specs.List.{AllByRecursion}
use Rattle.std.proofs.lemmas.Option.{same_Some}
use Rattle.std.proofs.lemmas.Bool.{cases_Bool, cases_eq, cond-true, cond-false, and_from, lt-ltb, le-leb}
use Rattle.std.proofs.lemmas.List.{length-set, get_or_append_left, get_or-append-add}
use Rattle.event_log.specs.PassedOn.{choose}
use Rattle.event_log.specs.declared.log.Event.{Event}
use Rattle.event_log.specs.declared.log.Kind.{Kind}
use Rattle.event_log.specs.declared.log.Kind.TheVariants as kind
use Rattle.event_log.specs.States.{with_event, with_batch}
use Rattle.vector_clock.specs.declared.message.Message.{Message}
use Rattle.vector_clock.specs.declared.nodes.Target.TheVariants.{Admitted}
use Rattle.vector_clock.specs.Events.{Events, EventStands, own_events, place}
use Rattle.vector_clock.specs.Messages.{is_same, message_sent, message_received, first_place, first_send, sends}
use Rattle.vector_clock.specs.Fill.{Place, IsThere, event_at, IsSendOf, no_event}
use Rattle.vector_clock.specs.inside.Nodes.{event_in, node_place, Finds, first_index, admitted_at}
use Rattle.vector_clock.specs.inside.Nodes.{sent_at, send_of}
use Rattle.vector_clock.proofs.FirstPlaces.{own_same, own_other, first_kept, first_added, first_le, same_message}
use Rattle.vector_clock.proofs.Looks.{own_len}

-- ---- events that are added

stands_on : (events : Events) (e : Event) (batch : List Event) → AllByRecursion (EventStands (length events)) batch → AllByRecursion (EventStands (length (with_event events e))) batch
stands_on events e batch stands = subst (λ (n : ℕ). AllByRecursion (EventStands n) batch) (sym (length-set events e.process _)) stands

pub own_grows : (events : Events) (batch : List Event) (p : ℕ) → AllByRecursion (EventStands (length events)) batch → (more : List Event) × (own_events (with_batch events batch) p ≡ own_events events p ++ more)
unfolding with_batch
own_grows events [] p stands = ([], sym (append-nil (own_events events p)))
own_grows events (e ∷ es) p stands =
    let rest = own_grows (with_event events e) es p (stands_on events e es stands.1) in
    elim (cases_eq p e.process) [
      | inl same ↦
          let own : own_events (with_event events e) p ≡ own_events events p ++ e ∷ [] =
          subst (λ (q : ℕ). own_events (with_event events e) q ≡ own_events events q ++ e ∷ []) (sym same) (own_same events e stands.0.process) in
          (e ∷ rest.0, rest.1 ∙ ap (λ (xs : List Event). xs ++ rest.0) own ∙ append_assoc (own_events events p) (e ∷ []) rest.0)
      | inr other ↦ (rest.0, rest.1 ∙ ap (λ (xs : List Event). xs ++ rest.0) (own_other events e p other))
    ]

pub length-all : (events : Events) (batch : List Event) → length (with_batch events batch) ≡ length events
unfolding with_batch
length-all events [] = refl
length-all events (e ∷ es) = length-all (with_event events e) es ∙ length-set events e.process _

-- what was there stays
pub old_event : (events : Events) (batch : List Event) (y : Place) → AllByRecursion (EventStands (length events)) batch → IsThere events y → IsThere (with_batch events batch) y × (event_at (with_batch events batch) y ≡ event_at events y)
old_event events batch y stands there =
    let g = own_grows events batch y.process stands in (
      record {
        process = omega (arith, there.process, length-all events batch);
        first = there.first;
        last = omega (arith, there.last, ap length g.1, length-append (own_events events y.process) g.0);
      },
      ap (λ (xs : List Event). get_or xs (y.position - 1) no_event) g.1 ∙ get_or_append_left (own_events events y.process) g.0 no_event (y.position - 1) (omega (arith, there.first, there.last)),
    )

-- each event of the batch is at its place
pub node_event : (events : Events) (batch : List Event) (k : ℕ) → AllByRecursion (EventStands (length events)) batch → k < length batch
    → IsThere (with_batch events batch) (node_place events batch k) × (event_at (with_batch events batch) (node_place events batch k) ≡ event_in batch k)
unfolding with_batch
node_event events [] k stands lt = absurd (omega (arith, lt))
node_event events (e ∷ es) (suc k) stands lt = node_event (with_event events e) es k (stands_on events e es stands.1) (omega (arith, lt))
node_event events (e ∷ es) zero stands lt =
    let g = own_grows (with_event events e) es e.process (stands_on events e es stands.1) in
    let own = own_events events e.process in
    let is : own_events (with_batch (with_event events e) es) e.process ≡ own ++ (e ∷ g.0) =
    g.1 ∙ ap (λ (xs : List Event). xs ++ g.0) (own_same events e stands.0.process) ∙ append_assoc own (e ∷ []) g.0 in
    let at : length own + 1 - 1 ≡ length own + 0 = omega arith in (
      record {
        process = omega (arith, stands.0.process, length-all (with_event events e) es, length-set events e.process (own ++ e ∷ []));
        first = omega arith;
        last = omega (arith, ap length is, length-append own (e ∷ g.0));
      },
      ap (λ (xs : List Event). get_or xs (length own + 1 - 1) no_event) is ∙ ap (λ (n : ℕ). get_or (own ++ (e ∷ g.0)) n no_event) at ∙ get_or-append-add own (e ∷ g.0) 0 no_event,
    )

-- ---- first sends

none_some : {X : Type 0} (a : X) → ◌≡◌ {A = Option X} None (Some a) → ⊥
none_some a h = cc

stays_step : (b : Bool) (o more : Option ℕ) (a : ℕ) → ((k : ℕ) → o ≡ Some k → more ≡ Some k) → (if b then Some 1 else option_map (λ k. k + 1) o) ≡ Some a → (if b then Some 1 else option_map (λ k. k + 1) more) ≡ Some a
stays_step true o more a h is = is
stays_step false None more a h is = absurd (none_some a is)
stays_step false (Some k) more a h is = ap (λ (x : Option ℕ). option_map (λ n. n + 1) x) (h k refl) ∙ is

first_stays : (test : Event → Bool) (xs ys : List Event) (a : ℕ) → first_place test xs ≡ Some a → first_place test (xs ++ ys) ≡ Some a
unfolding first_place
first_stays test [] ys a h = absurd (none_some a h)
first_stays test (x ∷ xs) ys a h = stays_step (test x) (first_place test xs) (first_place test (xs ++ ys)) a (λ k. first_stays test xs ys k) h

some_step : (b : Bool) (o : Option ℕ) (a : ℕ) → (if b then Some 1 else option_map (λ k. k + 1) o) ≡ Some a → 0 < a
some_step true o a h = omega (arith, same_Some 1 a h)
some_step false None a h = absurd (none_some a h)
some_step false (Some k) a h = omega (arith, same_Some (k + 1) a h)

first_some : (test : Event → Bool) (xs : List Event) (a : ℕ) → first_place test xs ≡ Some a → 0 < a
unfolding first_place
first_some test [] a h = absurd (none_some a h)
first_some test (x ∷ xs) a h = some_step (test x) (first_place test xs) a h

-- a send that was admitted comes first
send_old : (events : Events) (batch : List Event) (m : Message) (a : ℕ) → AllByRecursion (EventStands (length events)) batch → first_send events m ≡ Some a → first_send (with_batch events batch) m ≡ Some a
send_old events batch m a stands h =
    let g = own_grows events batch m.sender stands in
    ap (first_place (sends m)) g.1 ∙ first_stays (sends m) (own_events events m.sender) g.0 a h

sender_is : (m : Message) (p : ℕ) (k : Kind) → choose (message_sent p k) (λ n. is_same n m) false ≡ true → p ≡ m.sender
sender_is m p kind.Internal h = absurd (no_bool h)
  where
    no_bool : false ≡ true → ⊥
    no_bool q = cc
sender_is m p (kind.Send to id) h = ap (λ (n : Message). n.sender) (same_message (record { sender = p; receiver = to; id = id }) m h)
sender_is m p (kind.Receive sender id) h = absurd (no_bool h)
  where
    no_bool : false ≡ true → ⊥
    no_bool q = cc

new_send : (events : Events) (e : Event) (m : Message) → e.process < length events → sends m e ≡ true → first_send events m ≡ None → first_send (with_event events e) m ≡ Some (place events e)
new_send events e m lt passes none =
    let own = sender_is m e.process e.kind passes in
    ap (λ (p : ℕ). first_place (sends m) (own_events (with_event events e) p)) (sym own) ∙ first_added (sends m) events e lt passes
    ∙ ap (λ (o : Option ℕ). Some (unwrap_or o (place events e))) (ap (λ (p : ℕ). first_place (sends m) (own_events events p)) own ∙ none)

pub send_new : (events : Events) (batch : List Event) (m : Message) (k : ℕ) → AllByRecursion (EventStands (length events)) batch → first_send events m ≡ None → first_index (sends m) batch ≡ Some k
    → ((node_place events batch k).process ≡ m.sender) × (first_send (with_batch events batch) m ≡ Some (node_place events batch k).position)
unfolding with_batch first_index
send_new events [] m k stands none h = absurd (none_some k h)
send_new events (e ∷ es) m k stands none h = elim (cases_Bool (sends m e)) [
  | inl passes ↦
      let zero_is : 0 ≡ k = same_Some 0 k (sym (cond-true (sends m e) (Some 0) (option_map (λ n. n + 1) (first_index (sends m) es)) passes) ∙ h) in
      let first : ((node_place events (e ∷ es) 0).process ≡ m.sender) × (first_send (with_batch (with_event events e) es) m ≡ Some (node_place events (e ∷ es) 0).position) =
      (sender_is m e.process e.kind passes, send_old (with_event events e) es m (place events e) (stands_on events e es stands.1) (new_send events e m stands.0.process passes none)) in
      subst (λ (n : ℕ). ((node_place events (e ∷ es) n).process ≡ m.sender) × (first_send (with_batch (with_event events e) es) m ≡ Some (node_place events (e ∷ es) n).position)) zero_is first
  | inr fails ↦
      let kept = first_kept (sends m) events e m.sender stands.0.process fails ∙ none in
      let rest = sym (cond-false (sends m e) (Some 0) (option_map (λ n. n + 1) (first_index (sends m) es)) fails) ∙ h in
      later (first_index (sends m) es) refl rest (λ n is. send_new (with_event events e) es m n (stands_on events e es stands.1) kept is)
]
  where
    later : (o : Option ℕ) → first_index (sends m) es ≡ o → option_map (λ n. n + 1) o ≡ Some k
        → ((n : ℕ) → first_index (sends m) es ≡ Some n → ((node_place (with_event events e) es n).process ≡ m.sender) × (first_send (with_batch (with_event events e) es) m ≡ Some (node_place (with_event events e) es n).position))
        → ((node_place events (e ∷ es) k).process ≡ m.sender) × (first_send (with_batch (with_event events e) es) m ≡ Some (node_place events (e ∷ es) k).position)
    later None is at go = absurd (none_some k at)
    later (Some n) is at go =
        let next : suc n ≡ k = omega (arith, same_Some (n + 1) k at) in
        subst (λ (q : ℕ). ((node_place events (e ∷ es) q).process ≡ m.sender) × (first_send (with_batch (with_event events e) es) m ≡ Some (node_place events (e ∷ es) q).position)) next (go n is)

pub send_none : (events : Events) (batch : List Event) (m : Message) → AllByRecursion (EventStands (length events)) batch → first_send events m ≡ None → first_index (sends m) batch ≡ None → first_send (with_batch events batch) m ≡ None
unfolding with_batch first_index
send_none events [] m stands none h = none
send_none events (e ∷ es) m stands none h = elim (cases_Bool (sends m e)) [
  | inl passes ↦ absurd (none_some 0 (sym h ∙ cond-true (sends m e) (Some 0) (option_map (λ n. n + 1) (first_index (sends m) es)) passes))
  | inr fails ↦
      let kept = first_kept (sends m) events e m.sender stands.0.process fails ∙ none in
      send_none (with_event events e) es m (stands_on events e es stands.1) kept
      (not_mapped (first_index (sends m) es) (sym (cond-false (sends m e) (Some 0) (option_map (λ n. n + 1) (first_index (sends m) es)) fails) ∙ h))
]
  where
    not_mapped : (o : Option ℕ) → option_map (λ n. n + 1) o ≡ None → o ≡ None
    not_mapped None q = refl
    not_mapped (Some n) q = absurd (none_some (n + 1) (sym q))

-- ---- the send of what an event receives

one_send : (all : Events) (x z : Place) (m : Message) → message_received x.process (event_at all x).kind ≡ Some m → z.process ≡ m.sender → first_send all m ≡ Some z.position
    → IsSendOf all all x z × ((y : Place) → IsSendOf all all x y → y ≡ z)
one_send all x z m received from sent = (record { message = m; received = received; sender = from; sent = sent }, same)
  where
    same : (y : Place) → IsSendOf all all x y → y ≡ z
    same y s =
        let message : s.message ≡ m = same_Some s.message m (sym s.received ∙ received) in
        let process : y.process ≡ z.process = s.sender ∙ ap (λ (n : Message). n.sender) message ∙ sym from in
        let position : y.position ≡ z.position = same_Some y.position z.position (sym s.sent ∙ ap (first_send all) message ∙ sent) in
        λ i. record { process = process i; position = position i }

pub send_finds : (events : Events) (batch : List Event) (k : ℕ) → AllByRecursion (EventStands (length events)) batch → k < length batch
    → Finds events batch (IsSendOf (with_batch events batch) (with_batch events batch) (node_place events batch k)) (send_of (map length events) events batch (event_in batch k))
send_finds events batch k stands lt = go (message_received e.process e.kind) refl
  where
    all : Events
    all = with_batch events batch

    e : Event
    e = event_in batch k

    x : Place
    x = node_place events batch k

    kind_is : message_received x.process (event_at (with_batch events batch) x).kind ≡ message_received e.process e.kind
    kind_is = ap (λ (y : Event). message_received x.process y.kind) (node_event events batch k stands lt).1

    at : (m : Message) → message_received e.process e.kind ≡ Some m → (old new : Option ℕ) → first_send events m ≡ old → first_index (sends m) batch ≡ new
        → Finds events batch (IsSendOf (with_batch events batch) (with_batch events batch) x) (sent_at (map length events) old new m)
    at m is (Some a) new first within =
        let low = first_some (sends m) (own_events events m.sender) a first in
        let high = first_le (sends m) (own_events events m.sender) a first in
        let admitted : admitted_at (map length events) m.sender a ≡ Some (Admitted (record { process = m.sender; position = a })) =
        cond-true (nat_lt 0 a && nat_le a (get_or (map length events) m.sender 0)) _ _ (and_from (nat_lt 0 a) _ (lt-ltb 0 a low) (le-leb a (get_or (map length events) m.sender 0) (omega (arith, high, own_len events m.sender)))) in
        subst (Finds events batch (IsSendOf (with_batch events batch) (with_batch events batch) x)) (sym admitted)
        (one_send (with_batch events batch) x (record { process = m.sender; position = a }) m (kind_is ∙ is) refl (send_old events batch m a stands first))
    at m is None (Some n) first within =
        let new_ = send_new events batch m n stands first within in
        one_send (with_batch events batch) x (node_place events batch n) m (kind_is ∙ is) new_.0 new_.1
    at m is None None first within = λ y s.
        let message : s.message ≡ m = same_Some s.message m (sym s.received ∙ kind_is ∙ is) in
        none_some y.position (sym (send_none events batch m stands first within) ∙ ap (first_send (with_batch events batch)) (sym message) ∙ s.sent)

    go : (o : Option Message) → message_received e.process e.kind ≡ o
        → Finds events batch (IsSendOf (with_batch events batch) (with_batch events batch) x) (choose o (λ m. sent_at (map length events) (first_send events m) (first_index (sends m) batch) m) None)
    go None is = λ y s. none_some s.message (sym is ∙ sym kind_is ∙ s.received)
    go (Some m) is = at m is (first_send events m) (first_index (sends m) batch) refl refl
