-- The function's clocks are those of the definition.
use Rattle.std.proofs.Common.{◌≡◌, ◌⊎◌, ℕ, zero, suc, ◌+◌, ◌-◌, ◌<◌, Bool, true, false, ◌||◌, List, [], ◌∷◌, ◌++◌, length, get_or, refl, sym, ap, ◌∙◌, subst, arith, inl, inr}
use Rattle.std.specs.Prelude.{◌==◌, ◌&&◌, nat_lt, nat_le, Option, None, Some, if◌then◌else◌}
use Rattle.std.proofs.lemmas.Bool.{cases_Bool, and_parts, and_from, cond-true, cond-false, eqb-true, eq-eqb, ne_eqb, ltb-true, lt-ltb, leb-true, le-leb}
use Rattle.event_log.specs.PassedOn.{choose}
use Rattle.run_model.specs.Cut.{count}
use Rattle.vector_clock.specs.declared.message.Message.{Message}
use Rattle.vector_clock.specs.Events.{Events, own_events}
use Rattle.vector_clock.specs.Messages.{message_received, first_send}
use Rattle.greatest_reach.specs.Back.{IsGreatest, greatest_given}
use Rattle.vector_clock.specs.Fill.{Place, IsThere, event_at, IsLeftOut, IsWritten, IsBefore, IsSendOf, Links, Gives, HasClockOf}
use Rattle.vector_clock.specs.Filled.{is_left_out, is_there, is_before, is_send_of, links, given, places_on, places_from, counts_from, clock_of}
use Rattle.greatest_reach.proofs.Search.{Among, found}
use Rattle.vector_clock.proofs.FilledBatches.{length-counts_from}

no_bool : true ≡ false → ⊥
no_bool h = cc

-- ---- single tests

nothing : {X : Type 0} (xs : List X) → length xs ≡ 0 → xs ≡ []
nothing [] h = refl
nothing (x ∷ xs) h = absurd (omega (arith, h))

there_told : (events : Events) (x : Place) → is_there events x ≡ true → IsThere events x
there_told events x h =
    let a = and_parts (nat_lt x.process (length events)) _ h in
    let b = and_parts (nat_lt 0 x.position) (nat_le x.position (length (own_events events x.process))) a.1 in
    record { process = ltb-true _ _ a.0; first = ltb-true _ _ b.0; last = leb-true _ _ b.1 }

tells_there : (events : Events) (x : Place) → IsThere events x → is_there events x ≡ true
tells_there events x t =
    and_from (nat_lt x.process (length events)) _ (lt-ltb _ _ t.process)
    (and_from (nat_lt 0 x.position) (nat_le x.position (length (own_events events x.process))) (lt-ltb _ _ t.first) (le-leb _ _ t.last))

out_told : (events : Events) (x : Place) → is_there events x ≡ true → is_left_out (event_at events x) ≡ true → IsLeftOut events x
out_told events x h k = (there_told events x h, nothing (event_at events x).clock (eqb-true (length (event_at events x).clock) 0 k))

tells_out : (events : Events) (x : Place) → (event_at events x).clock ≡ [] → is_left_out (event_at events x) ≡ true
tells_out events x h = eq-eqb (length (event_at events x).clock) 0 (ap length h)

before_told : (x y : Place) → is_before x y ≡ true → IsBefore x y
before_told x y h =
    let a = and_parts (y.process == x.process) _ h in
    let b = and_parts (y.position + 1 == x.position) (nat_lt 0 y.position) a.1 in
    record { process = eqb-true _ _ a.0; position = eqb-true _ _ b.0; there = ltb-true _ _ b.1 }

tells_before : (x y : Place) → IsBefore x y → is_before x y ≡ true
tells_before x y t =
    and_from (y.process == x.process) _ (eq-eqb _ _ t.process)
    (and_from (y.position + 1 == x.position) (nat_lt 0 y.position) (eq-eqb _ _ t.position) (lt-ltb _ _ t.there))

send_told : (events : Events) (x y : Place) → is_send_of events x y ≡ true → IsSendOf events events x y
send_told events x y h = go (message_received x.process (event_at events x).kind) refl h
  where
    at : (m : Message) → message_received x.process (event_at events x).kind ≡ Some m → (o : Option ℕ) → first_send events m ≡ o → y.process ≡ m.sender → choose o (λ a. a == y.position) false ≡ true
        → IsSendOf events events x y
    at m is None first from k = absurd (no_bool (sym k))
    at m is (Some a) first from k = record { message = m; received = is; sender = from; sent = first ∙ ap (λ (n : ℕ). Some n) (eqb-true a y.position k) }

    go : (o : Option Message) → message_received x.process (event_at events x).kind ≡ o
        → choose o (λ m. (y.process == m.sender) && choose (first_send events m) (λ a. a == y.position) false) false ≡ true → IsSendOf events events x y
    go None is k = absurd (no_bool (sym k))
    go (Some m) is k =
        let parts = and_parts (y.process == m.sender) (choose (first_send events m) (λ a. a == y.position) false) k in
        at m is (first_send events m) refl (eqb-true _ _ parts.0) parts.1

tells_send : (events : Events) (x y : Place) → IsSendOf events events x y → is_send_of events x y ≡ true
tells_send events x y t =
    ap (λ (o : Option Message). choose o (λ m. (y.process == m.sender) && choose (first_send events m) (λ a. a == y.position) false) false) t.received
    ∙ and_from (y.process == t.message.sender) _ (eq-eqb _ _ t.sender)
    (ap (λ (o : Option ℕ). choose o (λ a. a == y.position) false) t.sent ∙ eq-eqb y.position y.position refl)

-- ---- links

either : (a b : Bool) → (a || b) ≡ true → (a ≡ true) ⊎ (b ≡ true)
either true b h = inl refl
either false b h = inr h

one_of : (a b : Bool) → (a ≡ true) ⊎ (b ≡ true) → (a || b) ≡ true
one_of true b h = refl
one_of false b (inl h) = absurd (no_bool (sym h))
one_of false b (inr h) = h

links_told : (events : Events) (x y : Place) → links events x y ≡ true → Links events (λ z. events) x y
links_told events x y h =
    let a = and_parts (is_there events x && is_left_out (event_at events x)) (is_before x y || is_send_of events x y) h in
    let b = and_parts (is_there events x) (is_left_out (event_at events x)) a.0 in
    record {
      left_out = out_told events x b.0 b.1;
      to = elim (either (is_before x y) (is_send_of events x y) a.1) [ inl k ↦ inl (before_told x y k) | inr k ↦ inr (send_told events x y k) ];
    }

tells_links : (events : Events) (x y : Place) → Links events (λ z. events) x y → links events x y ≡ true
tells_links events x y l =
    and_from (is_there events x && is_left_out (event_at events x)) (is_before x y || is_send_of events x y)
    (and_from (is_there events x) (is_left_out (event_at events x)) (tells_there events x l.left_out.0) (tells_out events x l.left_out.1))
    (one_of (is_before x y) (is_send_of events x y) (elim l.to [ inl k ↦ inl (tells_before x y k) | inr k ↦ inr (tells_send events x y k) ]))

-- ---- places

among_left : (x : Place) (xs ys : List Place) → Among x xs → Among x (xs ++ ys)
among_left x [] ys h = absurd h
among_left x (p ∷ xs) ys (inl h) = inl h
among_left x (p ∷ xs) ys (inr h) = inr (among_left x xs ys h)

among_right : (x : Place) (xs ys : List Place) → Among x ys → Among x (xs ++ ys)
among_right x [] ys h = h
among_right x (p ∷ xs) ys h = inr (among_right x xs ys h)

on_process : (p from n k : ℕ) → k < n → Among (record { process = p; position = from + k }) (places_on p from n)
unfolding places_on
on_process p from zero k lt = absurd (omega (arith, lt))
on_process p from (suc n) zero lt = inl (ap (λ (a : ℕ). let x : Place = record { process = p; position = a } in x) (omega arith))
on_process p from (suc n) (suc k) lt =
    inr (subst (λ (a : ℕ). Among (record { process = p; position = a }) (places_on p (from + 1) n)) (omega arith) (on_process p (from + 1) n k (omega (arith, lt))))

on_all : (p : ℕ) (events : Events) (i k : ℕ) → i < length events → k < length (own_events events i) → Among (record { process = p + i; position = 1 + k }) (places_from p events)
unfolding places_from
on_all p [] i k lt here = absurd (omega (arith, lt))
on_all p (es ∷ events) zero k lt here =
    among_left _ (places_on p 1 (length es)) (places_from (p + 1) events)
    (subst (λ (a : ℕ). Among (record { process = a; position = 1 + k }) (places_on p 1 (length es))) (omega arith) (on_process p 1 (length es) k here))
on_all p (es ∷ events) (suc i) k lt here =
    among_right _ (places_on p 1 (length es)) (places_from (p + 1) events)
    (subst (λ (a : ℕ). Among (record { process = a; position = 1 + k }) (places_from (p + 1) events)) (omega arith) (on_all (p + 1) events i k (omega (arith, lt)) here))

is_among : (events : Events) (x : Place) → IsThere events x → Among x (places_from 0 events)
is_among events x t =
    subst (λ (a : ℕ). Among (record { process = x.process; position = a }) (places_from 0 events)) (omega (arith, t.first))
    (subst (λ (p : ℕ). Among (record { process = p; position = 1 + (x.position - 1) }) (places_from 0 events)) (omega arith)
    (on_all 0 events x.process (x.position - 1) t.process (omega (arith, t.first, t.last))))

-- ---- gifts

given_out : (events : Events) (j : ℕ) (x : Place) → IsLeftOut events x → given events j x ≡ (if x.process == j then x.position else 0)
given_out events j x l =
    cond-true (is_there events x) _ _ (tells_there events x l.0) ∙ cond-true (is_left_out (event_at events x)) _ _ (tells_out events x l.1)

given_written : (events : Events) (j : ℕ) (x : Place) → IsWritten events x → given events j x ≡ count (event_at events x).clock j
given_written events j x w =
    cond-true (is_there events x) _ _ (tells_there events x w.0)
    ∙ cond-false (is_left_out (event_at events x)) _ _ (ne_eqb (length (event_at events x).clock) 0 (λ h. w.1 (nothing (event_at events x).clock h)))

gives_given : (events : Events) (j : ℕ) (x : Place) (n : ℕ) → Gives events j x n → Among x (places_from 0 events) × (n ≡ given events j x)
gives_given events j x n (inl w) = (is_among events x w.0.0, w.1 ∙ sym (given_written events j x w.0))
gives_given events j x n (inr l) =
    (is_among events x l.0.0, l.2 ∙ sym (given_out events j x l.0 ∙ cond-true (x.process == j) _ _ (eq-eqb _ _ l.1)))

given_gives : (events : Events) (j : ℕ) (x : Place) → 0 < given events j x → Gives events j x (given events j x)
given_gives events j x some = elim (cases_Bool (is_there events x)) [
  | inr off ↦ absurd (omega (arith, some, cond-false (is_there events x) (if is_left_out (event_at events x) then (if x.process == j then x.position else 0) else count (event_at events x).clock j) 0 off))
  | inl on ↦ elim (cases_Bool (is_left_out (event_at events x))) [
    | inl out ↦ left (out_told events x on out)
    | inr in_ ↦ kept ((there_told events x on, λ h. no_bool (sym (tells_out events x h) ∙ in_)))
  ]
]
  where
    kept : IsWritten events x → Gives events j x (given events j x)
    kept w = inl (w, given_written events j x w)

    left : IsLeftOut events x → Gives events j x (given events j x)
    left l = elim (cases_Bool (x.process == j)) [
      | inl own ↦ inr (l, eqb-true _ _ own, given_out events j x l ∙ cond-true (x.process == j) _ _ own)
      | inr other ↦ absurd (omega (arith, some, given_out events j x l ∙ cond-false (x.process == j) x.position 0 other))
    ]

-- ---- clocks

counts_at : (f : ℕ → ℕ) (from n j : ℕ) → j < n → get_or (counts_from f from n) j 0 ≡ f (from + j)
unfolding counts_from
counts_at f from zero j lt = absurd (omega (arith, lt))
counts_at f from (suc n) zero lt = ap f (omega arith)
counts_at f from (suc n) (suc j) lt = counts_at f (from + 1) n j (omega (arith, lt)) ∙ ap f (omega arith)

pub has_clock : (events : Events) (x : Place) → HasClockOf events (λ y. events) x (clock_of events x)
has_clock events x = record {
  width = length-counts_from _ 0 (length events);
  counts = λ j lt.
      subst (IsGreatest (Links events (λ y. events)) (Gives events j) x) (sym (counts_at (λ i. greatest_given (links events) (given events i) (places_from 0 events) x) 0 (length events) j lt ∙ same j))
      (found (Links events (λ y. events)) (Gives events j) (links events) (given events j) (places_from 0 events) (record {
        right = links_told events;
        all = tells_links events;
        links = λ y z l. is_among events y l.left_out.0;
        gives = gives_given events j;
        given_is = given_gives events j;
      }) x);
}
  where
    same : (j : ℕ) → greatest_given (links events) (given events (0 + j)) (places_from 0 events) x ≡ greatest_given (links events) (given events j) (places_from 0 events) x
    same j = ap (λ (i : ℕ). greatest_given (links events) (given events i) (places_from 0 events) x) (omega arith)
