-- Where no event has a fault, each message is sent once and received once.
use Rattle.std.proofs.Common.{◌≡◌, ℕ, zero, suc, ◌+◌, ◌-◌, ◌<◌, ◌≤◌, Bool, true, false, ◌||◌, List, [], ◌∷◌, ◌++◌, length, get_or, refl, sym, ap, ◌∙◌, subst, arith, inl, inr, length-append}
use Rattle.std.specs.Prelude.{Option, None, Some, is_some, if◌then◌else◌}
use Rattle.std.specs.Option.{option_map, unwrap_or}
use Rattle.std.specs.List.{AllByRecursion}
use Rattle.std.proofs.lemmas.Bool.{cases_lt, cases_eq}
use Rattle.std.proofs.lemmas.Option.{same_Some, none-some}
use Rattle.std.proofs.lemmas.List.{get_or_append_left, get_or_push, length-set}
use Rattle.log_lines.specs.Reading.{choose}
use Rattle.event_log.specs.declared.item.LogCode.{LogCode}
use Rattle.event_log.specs.declared.item.LogCode.TheVariants as code
use Rattle.event_log.specs.declared.log.Kind.{Kind}
use Rattle.event_log.specs.declared.log.Kind.TheVariants as kind
use Rattle.event_log.specs.declared.log.Event.{Event}
use Rattle.event_log.specs.States.{with_event, with_batch}
use Rattle.vector_clock.specs.declared.message.Message.{Message}
use Rattle.vector_clock.specs.Events.{Events, EventFits, no_events, own_events, clocks_of, place}
use Rattle.vector_clock.specs.Messages.{message_sent, message_received, is_same, first_place, first_send, first_receipt}
use Rattle.vector_clock.specs.Faults.{is_twice, message_fault, clock_fault, event_fault, at_line, fault_from}
use Rattle.vector_clock.specs.Faultless.{AreFaultless, no_batch, one_batch}
use Rattle.vector_clock.proofs.Faultless.{chosen_none, none_of}
use Rattle.vector_clock.proofs.FirstPlaces.{Key, has_key, same_message, same_refl, first_with, own_same, own_other}
use Rattle.vector_clock.proofs.MessageLaws.{sent_key, received_key}
use Rattle.vector_clock.proofs.Receipts.{faultless_count}
use Rattle.view_parts.specs.Parts.{no_event}

-- ---- one process

-- each event that has a message is the first that has it
abbrev pub AreFirst : Key → List Event → Type 0
AreFirst key es = (k : ℕ) (m : Message) → k < length es → key (get_or es k no_event) ≡ Some m → first_place (has_key key m) es ≡ Some (k + 1)

keep_step : (b : Bool) (old new : Option ℕ) (a : ℕ) → ((k : ℕ) → old ≡ Some k → new ≡ Some k) → (if b then Some 1 else option_map (λ k. k + 1) old) ≡ Some a → (if b then Some 1 else option_map (λ k. k + 1) new) ≡ Some a
keep_step true old new a same h = h
keep_step false None new a same h = absurd (none-some a h)
keep_step false (Some k) new a same h = ap (λ (o : Option ℕ). option_map (λ j. j + 1) o) (same k refl) ∙ h

first_stays : (test : Event → Bool) (es more : List Event) (a : ℕ) → first_place test es ≡ Some a → first_place test (es ++ more) ≡ Some a
unfolding first_place
first_stays test [] more a h = absurd (none-some a h)
first_stays test (e ∷ es) more a h = keep_step (test e) (first_place test es) (first_place test (es ++ more)) a (first_stays test es more) h

has_its_key : (key : Key) (m : Message) (e : Event) → key e ≡ Some m → has_key key m e ≡ true
has_its_key key m e h = ap (λ (o : Option Message). choose o (λ n. is_same n m) false) h ∙ same_refl m

pub key_is : (o : Option Message) (m : Message) → choose o (λ n. is_same n m) false ≡ true → o ≡ Some m
key_is None m h = cc
key_is (Some n) m h = ap (λ (x : Message). Some x) (same_message n m h)

-- behind events none of which has the message of this one
push_first : (key : Key) (es : List Event) (e : Event) → ((m : Message) → key e ≡ Some m → first_place (has_key key m) es ≡ None) → AreFirst key es → AreFirst key (es ++ e ∷ [])
push_first key es e none old k m below is = elim (cases_lt k (length es)) [
  | inl lt ↦ first_stays (has_key key m) es (e ∷ []) (k + 1) (old k m lt (ap key (sym (get_or_append_left es (e ∷ []) no_event k lt)) ∙ is))
  | inr ge ↦
      let at : k ≡ length es = omega (arith, ge, below, length-append es (e ∷ [])) in
      let own : key e ≡ Some m = ap key (sym (get_or_push es e no_event k (sym at))) ∙ is in
      first_with (has_key key m) es e [] (has_its_key key m e own) ∙ ap (λ (o : Option ℕ). Some (unwrap_or o (length es + 1))) (none m own) ∙ ap (λ (n : ℕ). Some (n + 1)) (sym at)
]

-- the place of the first one is there, and it passes
first_step : (test : Event → Bool) (e : Event) (es : List Event) (k : ℕ) (b : Bool) → test e ≡ b → (o : Option ℕ)
    → ((j : ℕ) → o ≡ Some j → (1 ≤ j) × (j ≤ length es) × (test (get_or es (j - 1) no_event) ≡ true))
    → (if b then Some 1 else option_map (λ j. j + 1) o) ≡ Some k → (1 ≤ k) × (k ≤ length (e ∷ es)) × (test (get_or (e ∷ es) (k - 1) no_event) ≡ true)
first_step test e es k true is o rest h =
    let one : 1 ≡ k = same_Some 1 k h in
    (omega (arith, one), omega (arith, one), subst (λ (n : ℕ). test (get_or (e ∷ es) (n - 1) no_event) ≡ true) one is)
first_step test e es k false is None rest h = absurd (none-some k h)
first_step test e es k false is (Some j) rest h =
    let more : j + 1 ≡ k = same_Some (j + 1) k h in
    let found = rest j refl in
    let at : k - 1 ≡ suc (j - 1) = omega (arith, more, found.0) in
    (omega (arith, more), omega (arith, more, found.1), subst (λ (i : ℕ). test (get_or (e ∷ es) i no_event) ≡ true) (sym at) found.2)

pub first_passes : (test : Event → Bool) (es : List Event) (k : ℕ) → first_place test es ≡ Some k → (1 ≤ k) × (k ≤ length es) × (test (get_or es (k - 1) no_event) ≡ true)
unfolding first_place
first_passes test [] k h = absurd (none-some k h)
first_passes test (e ∷ es) k h = first_step test e es k (test e) refl (first_place test es) (first_passes test es) h

-- ---- one event more

pub record AreOnce (events : Events) : Type 0 where
  pub sent : (p : ℕ) → AreFirst sent_key (own_events events p)
  pub received : (p : ℕ) → AreFirst received_key (own_events events p)

own_pushed : (P : List Event → Type 0) (before : Events) (e : Event) → e.process < length before → ((q : ℕ) → P (own_events before q)) → P (own_events before e.process ++ e ∷ [])
    → (q : ℕ) → P (own_events (with_event before e) q)
own_pushed P before e lt old new q = elim (cases_eq q e.process) [
  | inl same ↦ subst (λ (k : ℕ). P (own_events (with_event before e) k)) (sym same) (subst P (sym (own_same before e lt)) new)
  | inr other ↦ subst P (sym (own_other before e q other)) (old q)
]

or_none : (a b : Bool) → (a || b) ≡ false → (a ≡ false) × (b ≡ false)
or_none true b h = cc
or_none false b h = (refl, h)

not_some : (o : Option ℕ) → is_some o ≡ false → o ≡ None
not_some None h = refl
not_some (Some k) h = cc

never_sent : (before : Events) (e : Event) → is_twice before e ≡ false → (m : Message) → sent_key e ≡ Some m → first_place (has_key sent_key m) (own_events before e.process) ≡ None
never_sent before e twice m is = by_kind e.kind (or_none _ _ twice).0 is
  where
    by_kind : (k : Kind) → choose (message_sent e.process k) (λ n. is_some (first_send before n)) false ≡ false → message_sent e.process k ≡ Some m → first_place (has_key sent_key m) (own_events before e.process) ≡ None
    by_kind kind.Internal h is = cc
    by_kind (kind.Send to id) h is = subst (λ (n : Message). first_place (has_key sent_key n) (own_events before e.process) ≡ None) (same_Some _ m is) (not_some _ h)
    by_kind (kind.Receive sender id) h is = cc

never_received : (before : Events) (e : Event) → is_twice before e ≡ false → (m : Message) → received_key e ≡ Some m → first_place (has_key received_key m) (own_events before e.process) ≡ None
never_received before e twice m is = by_kind e.kind (or_none _ _ twice).1 is
  where
    by_kind : (k : Kind) → choose (message_received e.process k) (λ n. is_some (first_receipt before n)) false ≡ false → message_received e.process k ≡ Some m
        → first_place (has_key received_key m) (own_events before e.process) ≡ None
    by_kind kind.Internal h is = cc
    by_kind (kind.Send to id) h is = cc
    by_kind (kind.Receive sender id) h is = subst (λ (n : Message). first_place (has_key received_key n) (own_events before e.process) ≡ None) (same_Some _ m is) (not_some _ h)

one_once : (before all : Events) (e : Event) → AreOnce before → e.process < length before → message_fault before all e ≡ None → AreOnce (with_event before e)
one_once before all e old lt none =
    let twice = (none_of (is_twice before e) code.MessageTwice _ none).0 in
    record {
      sent = own_pushed (AreFirst sent_key) before e lt old.sent (push_first sent_key (own_events before e.process) e (never_sent before e twice) (old.sent e.process));
      received = own_pushed (AreFirst received_key) before e lt old.received (push_first received_key (own_events before e.process) e (never_received before e twice) (old.received e.process));
    }

-- ---- many events

batch_once : (before all : Events) (batch : List Event) → AreOnce before → AllByRecursion (EventFits (length before)) batch → fault_from before all batch ≡ None → AreOnce (with_batch before batch)
unfolding fault_from with_batch
batch_once before all [] old fits none = old
batch_once before all (e ∷ batch) old fits none =
    let parts = chosen_none (event_fault before all e) (at_line e) (fault_from (with_event before e) all batch) none in
    let message_none = (chosen_none (clock_fault (clocks_of all) (place before e) e) (λ (f : LogCode). f) (message_fault before all e) parts.0).1 in
    batch_once (with_event before e) all batch (one_once before all e old fits.0.clock.process message_none) (subst (λ (n : ℕ). AllByRecursion (EventFits n) batch) (sym (length-set before e.process _)) fits.1) parts.1

nothing_own : (n p : ℕ) → own_events (no_events n) p ≡ []
nothing_own zero p = refl
nothing_own (suc n) zero = refl
nothing_own (suc n) (suc p) = nothing_own n p

none_first : (key : Key) → AreFirst key []
none_first key k m below is = absurd (omega (arith, below))

pub faultless_once : (procs : ℕ) (events : Events) → AreFaultless procs events → AreOnce events
faultless_once procs events no_batch = record {
  sent = λ p. subst (AreFirst sent_key) (sym (nothing_own procs p)) (none_first sent_key);
  received = λ p. subst (AreFirst received_key) (sym (nothing_own procs p)) (none_first received_key);
}
faultless_once procs events (one_batch {before = before} more old fits none) =
    batch_once before (with_batch before more) more (faultless_once procs before old) (subst (λ (n : ℕ). AllByRecursion (EventFits n) more) (sym (faultless_count procs before old)) fits) none
