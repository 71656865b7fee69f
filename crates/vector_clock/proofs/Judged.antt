-- A batch that is judged event by event.
use Rattle.std.proofs.Common.{◌≡◌, ℕ, zero, suc, ◌+◌, ◌-◌, ◌<◌, ◌≤◌, List, [], ◌∷◌, ◌++◌, length, map, take, drop, get_or, set, refl, sym, ap, ◌∙◌, subst, arith, inl, inr, append_assoc, append-nil, length-append}
use Rattle.std.specs.Prelude.{Option, None, Some}
use Rattle.std.specs.List.{AllByRecursion}
use Rattle.std.proofs.lemmas.Bool.{cases_eq}
use Rattle.std.proofs.lemmas.List.{length-set, take-append-drop, take_all, drop_all, drop_more, take_more, map-set, get_or-set_same, get_or-set_other}
use Rattle.event_log.specs.PassedOn.{choose}
use Rattle.event_log.specs.declared.log.Event.{Event}
use Rattle.event_log.specs.declared.item.LogCode.{LogCode}
use Rattle.event_log.specs.States.{with_event, with_batch}
use Rattle.run_model.specs.Cut.{Cut, Clocks, lengths}
use Rattle.run_model.specs.Consistent.{IsOrder}
use Rattle.causal_order.specs.Growth.{HasClock, HasGrown, with_row, with_clocks}
use Rattle.causal_order.proofs.Growing.{count-lengths, grown_none, with_clocks-push, length-with_clocks, length-lengths}
use Rattle.vector_clock.specs.declared.messages.Messages.{Messages}
use Rattle.vector_clock.specs.Events.{Events, own_events, clocks_of, place}
use Rattle.vector_clock.specs.inside.Events.{raised}
use Rattle.vector_clock.specs.Faults.{clock_fault, event_fault, at_line, fault_from, batch_fault}
use Rattle.vector_clock.specs.Sound.{IsSound}
use Rattle.vector_clock.specs.Admitted.{HasMessages}
use Rattle.vector_clock.specs.inside.Admitted.{StandsIn}
use Rattle.vector_clock.proofs.Below.{count_is}
use Rattle.vector_clock.proofs.SoundOrders.{AllSound, sound_order, order_sound, sound_along}
use Rattle.vector_clock.proofs.Growth.{length-clocks_of, own_count, clocks_more, length-with_batch, grown_with, next_there}
use Rattle.vector_clock.proofs.BatchLaws.{one_sound}
use Rattle.vector_clock.proofs.Counting.{batch_next, raised_next, raised_none, no_batch, length-raised}

-- ---- one event and those behind it

split_at : (batch : List Event) (i : ℕ) (e : Event) → i < length batch → e ≡ get_or batch i e → batch ≡ take i batch ++ e ∷ drop (i + 1) batch
split_at batch i e lt at =
    sym (take-append-drop i batch) ∙ ap (λ (es : List Event). take i batch ++ es) (drop_more batch i e lt ∙ ap (λ (x : Event). x ∷ drop (i + 1) batch) (sym at))

clocks_split : (o : Clocks) (xs ys : List Event) → with_clocks o (xs ++ ys) ≡ with_clocks (with_clocks o xs) ys
unfolding with_clocks
clocks_split o [] ys = refl
clocks_split o (x ∷ xs) ys = clocks_split (with_row o x.process x.clock) xs ys

batch_split : (events : Events) (xs ys : List Event) → with_batch events (xs ++ ys) ≡ with_batch (with_batch events xs) ys
unfolding with_batch
batch_split events [] ys = refl
batch_split events (x ∷ xs) ys = batch_split (with_event events x) xs ys

first_of_rest : (o : Clocks) (e : Event) (es : List Event) → with_clocks o (e ∷ es) ≡ with_clocks (with_row o e.process e.clock) es
unfolding with_clocks
first_of_rest o e es = refl

one_then : (events : Events) (x : Event) (es : List Event) → with_batch events (x ∷ es) ≡ with_batch (with_event events x) es
unfolding with_batch
one_then events x es = refl

all_behind : (procs : ℕ) (batch : List Event) (i : ℕ) → AllByRecursion (HasClock procs) batch → AllByRecursion (HasClock procs) (drop i batch)
all_behind procs batch zero fits = fits
all_behind procs [] (suc i) fits = tt
all_behind procs (x ∷ batch) (suc i) fits = all_behind procs batch i fits.1

-- all clocks have grown from those with this event
pub grown_at : (o all : Clocks) (batch : List Event) (i : ℕ) (e : Event) → all ≡ with_clocks o batch → AllByRecursion (HasClock (length o)) batch → i < length batch → e ≡ get_or batch i e
    → HasGrown (with_row (with_clocks o (take i batch)) e.process e.clock) all
grown_at o all batch i e is fits lt at =
    let now = with_clocks o (take i batch) in
    let one = with_row now e.process e.clock in
    let whole : with_clocks one (drop (i + 1) batch) ≡ all =
    sym (is ∙ ap (with_clocks o) (split_at batch i e lt at) ∙ clocks_split o (take i batch) (e ∷ drop (i + 1) batch) ∙ first_of_rest now e (drop (i + 1) batch)) in
    let count : length one ≡ length o = length-set now e.process _ ∙ length-with_clocks o (take i batch) in
    subst (HasGrown one) whole (grown_with one one (drop (i + 1) batch) (grown_none one) (subst (λ (n : ℕ). AllByRecursion (HasClock n) (drop (i + 1) batch)) (sym count) (all_behind (length o) batch (i + 1) fits)))

-- the events of a process stay in front when more are added
own_more : (events : Events) (es : List Event) (p : ℕ) → AllByRecursion (HasClock (length events)) es → (more : List Event) × (own_events (with_batch events es) p ≡ own_events events p ++ more)
unfolding with_batch
own_more events [] p fits = ([], sym (append-nil (own_events events p)))
own_more events (e ∷ es) p fits =
    let rest = own_more (with_event events e) es p (subst (λ (n : ℕ). AllByRecursion (HasClock n) es) (sym (length-set events e.process _)) fits.1) in
    elim (cases_eq p e.process) [
      | inl same ↦
          let own : own_events (with_event events e) p ≡ own_events events p ++ e ∷ [] =
          subst (λ (k : ℕ). own_events (with_event events e) k ≡ own_events events k ++ e ∷ []) (sym same) (get_or-set_same events e.process _ [] fits.0.process) in
          (e ∷ rest.0, rest.1 ∙ ap (λ (xs : List Event). xs ++ rest.0) own ∙ append_assoc (own_events events p) (e ∷ []) rest.0)
      | inr other ↦ (rest.0, rest.1 ∙ ap (λ (xs : List Event). xs ++ rest.0) (get_or-set_other events e.process p _ [] other))
    ]

pub stands_at : (before : Events) (batch : List Event) (i : ℕ) (e : Event) (a : ℕ) → AllByRecursion (HasClock (length before)) batch → e.process < length before → i < length batch → e ≡ get_or batch i e
    → a ≡ place (with_batch before (take i batch)) e → StandsIn (with_batch before (take i batch)) (with_batch before batch) e a
stands_at before batch i e a fits lt there at is =
    let now = with_batch before (take i batch) in
    let count : length (with_event now e) ≡ length before = length-set now e.process _ ∙ length-with_batch before (take i batch) in
    let more = own_more (with_event now e) (drop (i + 1) batch) e.process (subst (λ (n : ℕ). AllByRecursion (HasClock n) (drop (i + 1) batch)) (sym count) (all_behind (length before) batch (i + 1) fits)) in
    let whole : with_batch before batch ≡ with_batch (with_event now e) (drop (i + 1) batch) =
    ap (with_batch before) (split_at batch i e there at) ∙ batch_split before (take i batch) (e ∷ drop (i + 1) batch) ∙ one_then now e (drop (i + 1) batch) in
    record {
      place_is = is;
      rest = more.0;
      split = ap (λ (events : Events). own_events events e.process) whole ∙ more.1
          ∙ ap (λ (xs : List Event). xs ++ more.0) (get_or-set_same now e.process _ [] (omega (arith, length-with_batch before (take i batch))))
          ∙ append_assoc (own_events now e.process) (e ∷ []) more.0;
    }

-- ---- so far

lens_one : (o : Clocks) (p : ℕ) (row : Cut) → lengths (with_row o p row) ≡ set (lengths o) p (get_or (lengths o) p 0 + 1)
unfolding lengths
lens_one o p row =
    map-set (length {A = Cut}) o p _ ∙ ap (set (map length o) p) (length-append (get_or o p []) (row ∷ []) ∙ ap (λ (n : ℕ). n + 1) (sym (at o p)))
  where
    at : (xs : Clocks) (q : ℕ) → get_or (map length xs) q 0 ≡ length (get_or xs q [])
    at [] q = refl
    at (x ∷ xs) zero = refl
    at (x ∷ xs) (suc q) = at xs q

pub lens_clocks : (o : Clocks) (es : List Event) → lengths (with_clocks o es) ≡ raised (lengths o) es
unfolding with_clocks raised
lens_clocks o [] = refl
lens_clocks o (e ∷ es) = lens_clocks (with_row o e.process e.clock) es ∙ ap (λ (lens : List ℕ). raised lens es) (lens_one o e.process e.clock)

-- the first i events are counted and without a fault of their clocks, and the first fault is that of the rest
pub record Judged (o all : Clocks) (messages : Messages) (batch : List Event) (taken : List ℕ) (i : ℕ) : Type 0 where
  pub counts : taken ≡ raised (lengths o) (take i batch)
  pub sound : AllSound (with_clocks o (take i batch)) all
  pub fault : (before : Events) → o ≡ clocks_of before → HasMessages messages (with_batch before batch)
      → batch_fault before batch ≡ fault_from (with_batch before (take i batch)) (with_batch before batch) (drop i batch)

pub judged_none : (o all : Clocks) (messages : Messages) (batch : List Event) (taken : List ℕ) → all ≡ with_clocks o batch → AllByRecursion (HasClock (length o)) batch → IsOrder o → taken ≡ lengths o
    → Judged o all messages batch taken 0
unfolding with_clocks
judged_none o all messages batch taken is fits order counts = record {
  counts = counts ∙ sym (raised_none (lengths o) batch);
  sound = sound_along o all (subst (HasGrown o) (sym is) (grown_with o o batch (grown_none o) fits)) (order_sound o order);
  fault = λ before at has. ap (λ (events : Events). fault_from events (with_batch before batch) batch) (sym (no_batch before batch));
}

-- the place of the next event, and what stands before it
pub record IsPlaced (o all : Clocks) (batch : List Event) (i : ℕ) (e : Event) (a : ℕ) : Type 0 where
  pub place_is : a ≡ length (get_or (with_clocks o (take i batch)) e.process []) + 1
  pub within : a ≤ length (get_or all e.process [])
  pub before : 1 < a → IsSound all e.process (a - 1)
  pub stands : (before : Events) → o ≡ clocks_of before → StandsIn (with_batch before (take i batch)) (with_batch before batch) e a

pub placed : (o all : Clocks) (messages : Messages) (batch : List Event) (taken : List ℕ) (i : ℕ) (e : Event) (n : ℕ) → Judged o all messages batch taken i → all ≡ with_clocks o batch
    → AllByRecursion (HasClock (length o)) batch → i < length batch → e ≡ get_or batch i e → HasClock (length o) e → n ≡ get_or taken e.process n → IsPlaced o all batch i e (n + 1)
placed o all messages batch taken i e n j is fits lt at has read = record {
  place_is = ap (λ (k : ℕ). k + 1) counted;
  within = subst (λ (k : ℕ). k + 1 ≤ length (get_or all e.process [])) (sym counted) (next_there now all e.process e.clock (grown_at o all batch i e is fits lt at) (omega (arith, has.process, length-with_clocks o (take i batch))));
  before = λ more. subst (IsSound all e.process) (omega arith) (j.sound e.process n (omega arith, omega (arith, counted, count-lengths now e.process)));
  stands = λ before own.
      let count : length before ≡ length o = sym (ap length own ∙ length-clocks_of before) in
      stands_at before batch i e (n + 1) (subst (λ (k : ℕ). AllByRecursion (HasClock k) batch) (sym count) fits) (omega (arith, has.process)) lt at
      (ap (λ (k : ℕ). k + 1) (counted ∙ ap (λ (x : Clocks). length (get_or (with_clocks x (take i batch)) e.process [])) own
      ∙ ap (λ (x : Clocks). length (get_or x e.process [])) (sym (clocks_more before (take i batch))) ∙ own_count (with_batch before (take i batch)) e.process));
}
  where
    now : Clocks
    now = with_clocks o (take i batch)

    lens : taken ≡ lengths now
    lens = j.counts ∙ sym (lens_clocks o (take i batch))

    counted : n ≡ length (get_or now e.process [])
    counted = sym (count_is taken e.process n (omega (arith, has.process, ap length lens, length-lengths now, length-with_clocks o (take i batch))) read)
        ∙ ap (λ (xs : List ℕ). get_or xs e.process 0) lens ∙ count-lengths now e.process

-- an event with a fault
fault_here : (before all : Events) (batch : List Event) (i : ℕ) (e : Event) (f : LogCode) → i < length batch → e ≡ get_or batch i e → event_fault before all e ≡ Some f
    → fault_from before all (drop i batch) ≡ Some (at_line e f)
unfolding fault_from
fault_here before all batch i e f lt at h =
    ap (fault_from before all) (drop_more batch i e lt ∙ ap (λ (x : Event). x ∷ drop (i + 1) batch) (sym at))
    ∙ ap (λ (o : Option LogCode). choose o (λ (x : LogCode). Some (at_line e x)) (fault_from (with_event before e) all (drop (i + 1) batch))) h

no_fault_here : (before all : Events) (batch : List Event) (i : ℕ) (e : Event) → i < length batch → e ≡ get_or batch i e → event_fault before all e ≡ None
    → fault_from before all (drop i batch) ≡ fault_from (with_event before e) all (drop (i + 1) batch)
unfolding fault_from
no_fault_here before all batch i e lt at h =
    ap (fault_from before all) (drop_more batch i e lt ∙ ap (λ (x : Event). x ∷ drop (i + 1) batch) (sym at))
    ∙ ap (λ (o : Option LogCode). choose o (λ (x : LogCode). Some (at_line e x)) (fault_from (with_event before e) all (drop (i + 1) batch))) h

-- what a judge of one event says
abbrev pub Says : Clocks → Messages → Event → ℕ → Option LogCode → Type 0
Says all messages e a answer = (before events : Events) → all ≡ clocks_of events → HasMessages messages events → StandsIn before events e a → answer ≡ event_fault before events e

whole_is : (o all : Clocks) (batch : List Event) (before : Events) → all ≡ with_clocks o batch → o ≡ clocks_of before → all ≡ clocks_of (with_batch before batch)
whole_is o all batch before is own = is ∙ ap (λ (x : Clocks). with_clocks x batch) own ∙ sym (clocks_more before batch)

pub judged_fault : (o all : Clocks) (messages : Messages) (batch : List Event) (taken : List ℕ) (i : ℕ) (e : Event) (a : ℕ) (answer : Option LogCode) (f : LogCode) → Judged o all messages batch taken i → all ≡ with_clocks o batch
    → i < length batch → e ≡ get_or batch i e → IsPlaced o all batch i e a → Says all messages e a answer → answer ≡ Some f
    → (before : Events) → o ≡ clocks_of before → HasMessages messages (with_batch before batch) → Some (at_line e f) ≡ batch_fault before batch
judged_fault o all messages batch taken i e a answer f j is lt at place says answers before own has =
    let here = says (with_batch before (take i batch)) (with_batch before batch) (whole_is o all batch before is own) has (place.stands before own) in
    sym (j.fault before own has ∙ fault_here (with_batch before (take i batch)) (with_batch before batch) batch i e f lt at (sym here ∙ answers))

pub judged_next : (o all : Clocks) (messages : Messages) (batch : List Event) (taken : List ℕ) (i : ℕ) (e : Event) (n : ℕ) (answer : Option LogCode) → Judged o all messages batch taken i → all ≡ with_clocks o batch
    → AllByRecursion (HasClock (length o)) batch → i < length batch → e ≡ get_or batch i e → HasClock (length o) e → n ≡ get_or taken e.process n → IsPlaced o all batch i e (n + 1) → Says all messages e (n + 1) answer
    → answer ≡ None → clock_fault all (n + 1) e ≡ None → Judged o all messages batch (set taken e.process (n + 1)) (i + 1)
judged_next o all messages batch taken i e n answer j is fits lt at has read place says answers right = record {
  counts = ap (λ (k : ℕ). set taken e.process (k + 1)) (sym counted) ∙ ap (λ (xs : List ℕ). set xs e.process (get_or xs e.process 0 + 1)) j.counts ∙ sym (raised_next (lengths o) batch i e lt at);
  sound = subst (λ (x : Clocks). AllSound x all) (sym more)
      (one_sound now all e j.sound (subst (λ (k : ℕ). HasClock k e) (sym (length-with_clocks o (take i batch))) has) (grown_at o all batch i e is fits lt at)
      (ap (λ (k : ℕ). clock_fault all k e) (sym place.place_is) ∙ right));
  fault = λ before own have.
      let here = says (with_batch before (take i batch)) (with_batch before batch) (whole_is o all batch before is own) have (place.stands before own) in
      j.fault before own have ∙ no_fault_here (with_batch before (take i batch)) (with_batch before batch) batch i e lt at (sym here ∙ answers)
      ∙ ap (λ (events : Events). fault_from events (with_batch before batch) (drop (i + 1) batch)) (sym (batch_next before batch i e lt at));
}
  where
    now : Clocks
    now = with_clocks o (take i batch)

    more : with_clocks o (take (i + 1) batch) ≡ with_row now e.process e.clock
    more = ap (with_clocks o) (take_more batch i e lt ∙ ap (λ (x : Event). take i batch ++ x ∷ []) (sym at)) ∙ with_clocks-push o (take i batch) e

    counted : get_or taken e.process 0 ≡ n
    counted = count_is taken e.process n (omega (arith, has.process, ap length j.counts, length-raised (lengths o) (take i batch), length-lengths o)) read

pub judged_fault_none : (o all : Clocks) (messages : Messages) (batch : List Event) (taken : List ℕ) (i : ℕ) → Judged o all messages batch taken i → length batch ≤ i
    → (before : Events) → o ≡ clocks_of before → HasMessages messages (with_batch before batch) → None ≡ batch_fault before batch
unfolding fault_from
judged_fault_none o all messages batch taken i j all_done before own has =
    sym (j.fault before own has ∙ ap (fault_from (with_batch before (take i batch)) (with_batch before batch)) (drop_all i batch all_done))

pub judged_order : (o all : Clocks) (messages : Messages) (batch : List Event) (taken : List ℕ) (i : ℕ) → Judged o all messages batch taken i → all ≡ with_clocks o batch → length batch ≤ i → IsOrder (with_clocks o batch)
judged_order o all messages batch taken i j is all_done =
    let whole : with_clocks o (take i batch) ≡ all = ap (with_clocks o) (take_all i batch all_done) ∙ sym is in
    subst IsOrder is (sound_order all (subst (λ (x : Clocks). AllSound x all) whole j.sound))
