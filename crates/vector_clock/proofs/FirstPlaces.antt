-- The first event of a process that has to do with a message, as events are added.
use Rattle.std.proofs.Common.{◌≡◌, ℕ, zero, suc, ◌+◌, ◌<◌, ◌≤◌, Bool, true, false, ◌&&◌, List, [], ◌∷◌, ◌++◌, length, refl, sym, ap, ◌∙◌, subst, arith, inl, inr}
use Rattle.std.specs.Prelude.{◌==◌, Option, None, Some, if◌then◌else◌}
use Rattle.std.specs.Option.{option_map, option_or, unwrap_or}
use Rattle.std.proofs.lemmas.Option.{same_Some}
use Rattle.std.proofs.lemmas.Bool.{cases_Bool, cases_eq, and_parts, and_from, and_left, cond-true, cond-false, eqb-true, eq-eqb, ne_eqb}
use Rattle.std.proofs.lemmas.List.{get_or-set_same, get_or-set_other}
use Rattle.event_log.specs.PassedOn.{choose}
use Rattle.event_log.specs.declared.log.Event.{Event}
use Rattle.event_log.specs.States.{with_event}
use Rattle.vector_clock.specs.declared.message.Message.{Message}
use Rattle.vector_clock.specs.Events.{Events, no_events, own_events, place}
use Rattle.vector_clock.specs.Messages.{is_same, first_place}
use Rattle.vector_clock.specs.inside.Met.{without, is_place}
use Rattle.vector_clock.specs.inside.Admitted.{StandsIn}

-- ---- one list of events

push_step : (b t : Bool) (first pushed : Option ℕ) (n : ℕ) → pushed ≡ choose first (λ a. Some a) (if t then Some (n + 1) else None)
    → (if b then Some 1 else option_map (λ k. k + 1) pushed) ≡ choose (if b then Some 1 else option_map (λ k. k + 1) first) (λ a. Some a) (if t then Some (suc n + 1) else None)
push_step true t first pushed n h = refl
push_step false t (Some a) pushed n h = ap (λ (o : Option ℕ). option_map (λ k. k + 1) o) h
push_step false true None pushed n h = ap (λ (o : Option ℕ). option_map (λ k. k + 1) o) h ∙ ap (λ (k : ℕ). Some k) (omega arith)
push_step false false None pushed n h = ap (λ (o : Option ℕ). option_map (λ k. k + 1) o) h

first_push : (test : Event → Bool) (es : List Event) (e : Event) → first_place test (es ++ e ∷ []) ≡ choose (first_place test es) (λ a. Some a) (if test e then Some (length es + 1) else None)
unfolding first_place
first_push test [] e = refl
first_push test (x ∷ es) e = push_step (test x) (test e) (first_place test es) (first_place test (es ++ e ∷ [])) (length es) (first_push test es e)

chosen_first : (o : Option ℕ) → choose o (λ a. Some a) None ≡ o
chosen_first None = refl
chosen_first (Some a) = refl

none_some : (a : ℕ) → ◌≡◌ {A = Option ℕ} None (Some a) → ⊥
none_some a h = cc

le_step : (b : Bool) (first : Option ℕ) (a n : ℕ) → ((k : ℕ) → first ≡ Some k → k ≤ n) → (if b then Some 1 else option_map (λ k. k + 1) first) ≡ Some a → a ≤ suc n
le_step true first a n h is = let one : 1 ≡ a = same_Some 1 a is in omega arith
le_step false None a n h is = absurd (none_some a is)
le_step false (Some k) a n h is = let one : k + 1 ≡ a = same_Some (k + 1) a is in omega (arith, h k refl)

pub first_le : (test : Event → Bool) (es : List Event) (a : ℕ) → first_place test es ≡ Some a → a ≤ length es
unfolding first_place
first_le test [] a h = absurd (none_some a h)
first_le test (x ∷ es) a h = le_step (test x) (first_place test es) a (length es) (first_le test es) h

-- with an event that passes and any behind it: the first before it, or the event itself
before_step : (b : Bool) (first whole : Option ℕ) (n : ℕ) → whole ≡ Some (unwrap_or first (n + 1))
    → (if b then Some 1 else option_map (λ k. k + 1) whole) ≡ Some (unwrap_or (if b then Some 1 else option_map (λ k. k + 1) first) (suc n + 1))
before_step true first whole n h = refl
before_step false (Some a) whole n h = ap (λ (o : Option ℕ). option_map (λ k. k + 1) o) h
before_step false None whole n h = ap (λ (o : Option ℕ). option_map (λ k. k + 1) o) h ∙ ap (λ (k : ℕ). Some k) (omega arith)

pub first_with : (test : Event → Bool) (es : List Event) (e : Event) (rest : List Event) → test e ≡ true → first_place test (es ++ e ∷ rest) ≡ Some (unwrap_or (first_place test es) (length es + 1))
unfolding first_place
first_with test [] e rest passes = cond-true (test e) _ _ passes
first_with test (x ∷ es) e rest passes = before_step (test x) (first_place test es) (first_place test (es ++ e ∷ rest)) (length es) (first_with test es e rest passes)

-- ---- all processes

pub own_same : (events : Events) (e : Event) → e.process < length events → own_events (with_event events e) e.process ≡ own_events events e.process ++ e ∷ []
own_same events e lt = get_or-set_same events e.process _ [] lt

pub own_other : (events : Events) (e : Event) (p : ℕ) → (p ≡ e.process → ⊥) → own_events (with_event events e) p ≡ own_events events p
own_other events e p ne = get_or-set_other events e.process p _ [] ne

-- an event that doesn't pass changes nothing
pub first_kept : (test : Event → Bool) (events : Events) (e : Event) (p : ℕ) → e.process < length events → test e ≡ false
    → first_place test (own_events (with_event events e) p) ≡ first_place test (own_events events p)
first_kept test events e p lt fails = elim (cases_eq p e.process) [
  | inl same ↦
      subst (λ (k : ℕ). first_place test (own_events (with_event events e) k) ≡ first_place test (own_events events k)) (sym same)
      (ap (first_place test) (own_same events e lt) ∙ first_push test (own_events events e.process) e
      ∙ ap (choose (first_place test (own_events events e.process)) (λ a. Some a)) (cond-false (test e) (Some (length (own_events events e.process) + 1)) None fails)
      ∙ chosen_first (first_place test (own_events events e.process)))
  | inr other ↦ ap (first_place test) (own_other events e p other)
]

pub first_added : (test : Event → Bool) (events : Events) (e : Event) → e.process < length events → test e ≡ true
    → first_place test (own_events (with_event events e) e.process) ≡ Some (unwrap_or (first_place test (own_events events e.process)) (place events e))
first_added test events e lt passes =
    ap (first_place test) (own_same events e lt) ∙ first_with test (own_events events e.process) e [] passes

-- ---- messages by a key of events, each kept at its owner

abbrev pub Key : Type 0
Key = Event → Option Message

abbrev pub Owner : Type 0
Owner = Message → ℕ

abbrev pub has_key : Key → Message → Event → Bool
has_key key m e = choose (key e) (λ n. is_same n m) false

abbrev pub first_of : Key → Owner → Events → Message → Option ℕ
first_of key owner events m = first_place (has_key key m) (own_events events (owner m))

pub same_message : (m n : Message) → is_same m n ≡ true → m ≡ n
same_message m n h =
    let one = and_parts (m.sender == n.sender) _ h in
    let two = and_parts (m.receiver == n.receiver) (m.id == n.id) one.1 in
    let sender = eqb-true m.sender n.sender one.0 in
    let receiver = eqb-true m.receiver n.receiver two.0 in
    let id = eqb-true m.id n.id two.1 in
    λ i. record { sender = sender i; receiver = receiver i; id = id i }

pub same_refl : (m : Message) → is_same m m ≡ true
same_refl m = and_from (m.sender == m.sender) _ (eq-eqb m.sender m.sender refl) (and_from (m.receiver == m.receiver) (m.id == m.id) (eq-eqb m.receiver m.receiver refl) (eq-eqb m.id m.id refl))

key_is : (key : Key) (m n : Message) (e : Event) → key e ≡ Some n → has_key key m e ≡ is_same n m
key_is key m n e is = ap (λ (o : Option Message). choose o (λ k. is_same k m) false) is

pub key_none : (key : Key) (m : Message) (e : Event) → key e ≡ None → has_key key m e ≡ false
key_none key m e is = ap (λ (o : Option Message). choose o (λ k. is_same k m) false) is

-- the same place for each message
abbrev pub AreThePlaces : (Message → Option ℕ) → (Message → Option ℕ) → Type 0
AreThePlaces f g = (m : Message) → f m ≡ g m

-- an event without a key changes nothing
pub none_noted : (key : Key) (owner : Owner) (events : Events) (e : Event) → e.process < length events → key e ≡ None → (m : Message) → first_of key owner (with_event events e) m ≡ first_of key owner events m
none_noted key owner events e lt none m = first_kept (has_key key m) events e (owner m) lt (key_none key m e none)

pub noted : (key : Key) (owner : Owner) (events : Events) (e : Event) (n : Message) (a : ℕ) (old new : Message → Option ℕ) → e.process < length events → key e ≡ Some n → owner n ≡ e.process → a ≡ place events e
    → AreThePlaces old (first_of key owner events)
    → AreThePlaces new (λ m. if is_same n m then Some (unwrap_or (old n) a) else old m)
    → AreThePlaces new (first_of key owner (with_event events e))
noted key owner events e n a old new lt is at here before after m = elim (cases_Bool (is_same n m)) [
  | inl same ↦
      after m ∙ cond-true (is_same n m) _ _ same
      ∙ subst (λ (k : Message). Some (unwrap_or (old n) a) ≡ first_of key owner (with_event events e) k) (same_message n m same) added
  | inr other ↦
      after m ∙ cond-false (is_same n m) _ _ other ∙ before m ∙ sym (first_kept (has_key key m) events e (owner m) lt (key_is key m n e is ∙ other))
]
  where
    added : Some (unwrap_or (old n) a) ≡ first_of key owner (with_event events e) n
    added =
        ap (λ (o : Option ℕ). Some (unwrap_or o a)) (before n) ∙ ap (λ (k : ℕ). Some (unwrap_or (first_of key owner events n) k)) here
        ∙ ap (λ (p : ℕ). Some (unwrap_or (first_place (has_key key n) (own_events events p)) (place events e))) at
        ∙ sym (ap (λ (p : ℕ). first_place (has_key key n) (own_events (with_event events e) p)) at ∙ first_added (has_key key n) events e lt (key_is key n n e is ∙ same_refl n))

pub forgotten : (key : Key) (owner : Owner) (events : Events) (e : Event) (n : Message) (a : ℕ) (old new : Message → Option ℕ) → e.process < length events → key e ≡ Some n → owner n ≡ e.process → a ≡ place events e
    → AreThePlaces old (first_of key owner (with_event events e))
    → AreThePlaces new (λ m. if is_same n m && is_place a (old m) then None else old m)
    → AreThePlaces new (first_of key owner events)
forgotten key owner events e n a old new lt is at here before after m = elim (cases_Bool (is_same n m)) [
  | inl same ↦
      after m ∙ subst (λ (k : Message). (if is_same n k && is_place a (old k) then None else old k) ≡ first_of key owner events k) (same_message n m same) removed
  | inr other ↦
      after m ∙ cond-false (is_same n m && is_place a (old m)) _ _ (and_left (is_same n m) _ other) ∙ before m
      ∙ first_kept (has_key key m) events e (owner m) lt (key_is key m n e is ∙ other)
]
  where
    added : old n ≡ Some (unwrap_or (first_of key owner events n) a)
    added =
        before n ∙ ap (λ (p : ℕ). first_place (has_key key n) (own_events (with_event events e) p)) at ∙ first_added (has_key key n) events e lt (key_is key n n e is ∙ same_refl n)
        ∙ ap (λ (p : ℕ). Some (unwrap_or (first_place (has_key key n) (own_events events p)) (place events e))) (sym at)
        ∙ ap (λ (k : ℕ). Some (unwrap_or (first_of key owner events n) k)) (sym here)

    back : (first kept : Option ℕ) → kept ≡ Some (unwrap_or first a) → ((k : ℕ) → first ≡ Some k → k < a) → (if true && is_place a kept then None else kept) ≡ first
    back None kept h low = cond-true (true && is_place a kept) _ _ (ap (is_place a) h ∙ eq-eqb a a refl)
    back (Some k) kept h low = cond-false (true && is_place a kept) _ _ (ap (is_place a) h ∙ ne_eqb k a (λ q. absurd (omega (arith, low k refl)))) ∙ h

    below : (k : ℕ) → first_of key owner events n ≡ Some k → k < a
    below k h =
        let le = first_le (has_key key n) (own_events events (owner n)) k h in
        omega (arith, ap (λ (p : ℕ). length (own_events events p)) at)

    removed : (if is_same n n && is_place a (old n) then None else old n) ≡ first_of key owner events n
    removed =
        ap (λ (b : Bool). if b && is_place a (old n) then None else old n) (same_refl n)
        ∙ back (first_of key owner events n) (old n) added below

-- ---- what is kept of one message

or_some : (o : Option ℕ) (a : ℕ) → option_or o (Some a) ≡ Some (unwrap_or o a)
or_some None a = refl
or_some (Some k) a = refl

or_none : (o : Option ℕ) → option_or o None ≡ o
or_none None = refl
or_none (Some k) = refl

kept_one : (old : Message → Option ℕ) (n : Message) (kept : Option ℕ) → kept ≡ old n → (m : Message) → (if is_same n m then kept else old m) ≡ old m
kept_one old n kept is m = elim (cases_Bool (is_same n m)) [
  | inl same ↦ cond-true (is_same n m) _ _ same ∙ is ∙ ap old (same_message n m same)
  | inr other ↦ cond-false (is_same n m) _ _ other
]

-- the message has its place where it had none
pub place_added : (old new : Message → Option ℕ) (n : Message) (a : ℕ) (place : Option ℕ) → place ≡ Some a → AreThePlaces new (λ m. if is_same n m then option_or (old n) place else old m)
    → AreThePlaces new (λ m. if is_same n m then Some (unwrap_or (old n) a) else old m)
place_added old new n a place is after m =
    after m ∙ ap (λ (o : Option ℕ). if is_same n m then o else old m) (ap (option_or (old n)) is ∙ or_some (old n) a)

pub none_added : (old new : Message → Option ℕ) (n : Message) (place : Option ℕ) → place ≡ None → AreThePlaces new (λ m. if is_same n m then option_or (old n) place else old m) → AreThePlaces new old
none_added old new n place is after m = after m ∙ kept_one old n (option_or (old n) place) (ap (option_or (old n)) is ∙ or_none (old n)) m

pub place_removed : (old new : Message → Option ℕ) (n : Message) (a : ℕ) (place : Option ℕ) → place ≡ Some a → AreThePlaces new (λ m. if is_same n m then without (old n) place else old m)
    → AreThePlaces new (λ m. if is_same n m && is_place a (old m) then None else old m)
place_removed old new n a place is after m = elim (cases_Bool (is_same n m)) [
  | inl same ↦
      after m ∙ cond-true (is_same n m) _ _ same ∙ ap (without (old n)) is
      ∙ subst (λ (k : Message). (if is_place a (old n) then None else old n) ≡ (if is_same n k && is_place a (old k) then None else old k)) (same_message n m same)
      (sym (ap (λ (b : Bool). if b && is_place a (old n) then None else old n) (same_refl n)))
  | inr other ↦
      after m ∙ cond-false (is_same n m) _ _ other ∙ sym (cond-false (is_same n m && is_place a (old m)) _ _ (and_left (is_same n m) _ other))
]

pub none_removed : (old new : Message → Option ℕ) (n : Message) (place : Option ℕ) → place ≡ None → AreThePlaces new (λ m. if is_same n m then without (old n) place else old m) → AreThePlaces new old
none_removed old new n place is after m = after m ∙ kept_one old n (without (old n) place) (ap (without (old n)) is) m

-- ---- an event that stands among others

-- what is kept for the message of an event is the event's place, unless an event before has the message
pub kept_for : (key : Key) (owner : Owner) (before all : Events) (e : Event) (n : Message) (a : ℕ) → StandsIn before all e a → key e ≡ Some n → owner n ≡ e.process
    → first_of key owner all n ≡ Some (unwrap_or (first_of key owner before n) a)
kept_for key owner before all e n a stands is at =
    ap (λ (p : ℕ). first_place (has_key key n) (own_events all p)) at ∙ ap (first_place (has_key key n)) stands.split
    ∙ first_with (has_key key n) (own_events before e.process) e stands.rest (key_is key n n e is ∙ same_refl n)
    ∙ ap (λ (k : ℕ). Some (unwrap_or (first_place (has_key key n) (own_events before e.process)) k)) (sym stands.place_is)
    ∙ ap (λ (p : ℕ). Some (unwrap_or (first_place (has_key key n) (own_events before p)) a)) (sym at)

pub before_is_less : (key : Key) (owner : Owner) (before all : Events) (e : Event) (n : Message) (a k : ℕ) → StandsIn before all e a → owner n ≡ e.process → first_of key owner before n ≡ Some k → k < a
before_is_less key owner before all e n a k stands at h =
    let le = first_le (has_key key n) (own_events before (owner n)) k h in
    omega (arith, ap (λ (p : ℕ). length (own_events before p)) at, stands.place_is)

-- ---- no events

pub none_first : (key : Key) (owner : Owner) (procs : ℕ) (m : Message) → first_of key owner (no_events procs) m ≡ None
unfolding first_place
none_first key owner procs m = ap (first_place (has_key key m)) (none procs (owner m))
  where
    none : (n p : ℕ) → own_events (no_events n) p ≡ []
    none zero p = refl
    none (suc n) zero = refl
    none (suc n) (suc p) = none n p
