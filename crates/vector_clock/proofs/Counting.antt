-- How many events each process has, and which, as events are added one by one.
use Rattle.std.proofs.Common.{◌≡◌, ℕ, zero, suc, ◌+◌, ◌-◌, ◌<◌, ◌≤◌, List, [], ◌∷◌, ◌++◌, length, map, sum, take, get_or, set, refl, sym, ap, ◌∙◌, subst, arith, length-append}
use Rattle.std.specs.List.{AllByRecursion}
use Rattle.std.proofs.lemmas.List.{length-set, length-map, map-set, take_more, length-take, get_or-set_same}
use Rattle.std.proofs.lemmas.List.Sums.{sum_by-cons}
use Rattle.pota_base.specs.Limits.{most_events}
use Rattle.event_log.specs.declared.log.Event.{Event}
use Rattle.event_log.specs.States.{with_event, with_batch}
use Rattle.vector_clock.specs.Events.{Events, EventFits, own_events, place}
use Rattle.vector_clock.specs.inside.Events.{raised}
use Rattle.vector_clock.proofs.Below.{count_is}

-- ---- one event more

pub batch_push : (events : Events) (es : List Event) (e : Event) → with_batch events (es ++ e ∷ []) ≡ with_event (with_batch events es) e
unfolding with_batch
batch_push events [] e = refl
batch_push events (x ∷ es) e = batch_push (with_event events x) es e

abbrev pub one_up : List ℕ → Event → List ℕ
one_up lens e = set lens e.process (get_or lens e.process 0 + 1)

raised_push : (lens : List ℕ) (es : List Event) (e : Event) → raised lens (es ++ e ∷ []) ≡ one_up (raised lens es) e
unfolding raised
raised_push lens [] e = refl
raised_push lens (x ∷ es) e = raised_push (one_up lens x) es e

-- the event at a place behind those before it
pub batch_next : (events : Events) (batch : List Event) (i : ℕ) (e : Event) → i < length batch → e ≡ get_or batch i e → with_batch events (take (i + 1) batch) ≡ with_event (with_batch events (take i batch)) e
batch_next events batch i e lt at =
    ap (with_batch events) (take_more batch i e lt ∙ ap (λ (x : Event). take i batch ++ x ∷ []) (sym at)) ∙ batch_push events (take i batch) e

pub raised_next : (lens : List ℕ) (batch : List Event) (i : ℕ) (e : Event) → i < length batch → e ≡ get_or batch i e → raised lens (take (i + 1) batch) ≡ one_up (raised lens (take i batch)) e
raised_next lens batch i e lt at =
    ap (raised lens) (take_more batch i e lt ∙ ap (λ (x : Event). take i batch ++ x ∷ []) (sym at)) ∙ raised_push lens (take i batch) e

pub no_batch : (events : Events) (batch : List Event) → with_batch events (take 0 batch) ≡ events
unfolding with_batch
no_batch events batch = refl

pub raised_none : (lens : List ℕ) (batch : List Event) → raised lens (take 0 batch) ≡ lens
unfolding raised
raised_none lens batch = refl

-- ---- lengths

pub own_len : (events : Events) (p : ℕ) → get_or (map length events) p 0 ≡ length (own_events events p)
own_len [] p = refl
own_len (es ∷ events) zero = refl
own_len (es ∷ events) (suc p) = own_len events p

lens_one : (events : Events) (e : Event) → map length (with_event events e) ≡ one_up (map length events) e
lens_one events e =
    map-set (length {A = Event}) events e.process _ ∙ ap (set (map length events) e.process) (length-append (own_events events e.process) (e ∷ []) ∙ ap (λ (n : ℕ). n + 1) (sym (own_len events e.process)))

pub lens_raised : (events : Events) (es : List Event) → map length (with_batch events es) ≡ raised (map length events) es
unfolding with_batch raised
lens_raised events [] = refl
lens_raised events (e ∷ es) = lens_raised (with_event events e) es ∙ ap (λ (lens : List ℕ). raised lens es) (lens_one events e)

pub length-raised : (lens : List ℕ) (es : List Event) → length (raised lens es) ≡ length lens
unfolding raised
length-raised lens [] = refl
length-raised lens (e ∷ es) = length-raised (one_up lens e) es ∙ length-set lens e.process _

-- the place of an event, where it is counted and where it isn't yet
pub place_counted : (events : Events) (e : Event) (lens : List ℕ) → e.process < length events → lens ≡ map length (with_event events e) → get_or lens e.process 0 ≡ place events e
place_counted events e lens lt is =
    ap (λ (xs : List ℕ). get_or xs e.process 0) (is ∙ lens_one events e) ∙ get_or-set_same (map length events) e.process _ 0 (omega (arith, length-map events (length {A = Event})))
    ∙ ap (λ (n : ℕ). n + 1) (own_len events e.process)

pub place_next : (events : Events) (e : Event) (lens : List ℕ) → lens ≡ map length events → get_or lens e.process 0 + 1 ≡ place events e
place_next events e lens is = ap (λ (xs : List ℕ). get_or xs e.process 0 + 1) is ∙ ap (λ (n : ℕ). n + 1) (own_len events e.process)

-- counted down again
pub one_down : (events : Events) (e : Event) (lens : List ℕ) (n : ℕ) → e.process < length events → lens ≡ map length (with_event events e) → n + 1 ≡ place events e → set lens e.process n ≡ map length events
one_down events e lens n lt is at =
    ap (λ (xs : List ℕ). set xs e.process n) (is ∙ lens_one events e) ∙ back (map length events) e.process _ n (omega (arith, own_len events e.process))
  where
    back : (xs : List ℕ) (p a m : ℕ) → m ≡ get_or xs p 0 → set (set xs p a) p m ≡ xs
    back [] p a m h = refl
    back (x ∷ xs) zero a m h = ap (λ (y : ℕ). y ∷ xs) h
    back (x ∷ xs) (suc p) a m h = ap (λ (ys : List ℕ). x ∷ ys) (back xs p a m h)

-- ---- how many events there are

sum_up : (lens : List ℕ) (p : ℕ) → sum (set lens p (get_or lens p 0 + 1)) ≤ sum lens + 1
sum_up [] p = omega arith
sum_up (x ∷ lens) zero = omega (arith, sum_by-cons (λ n. n) (x + 1) lens, sum_by-cons (λ n. n) x lens)
sum_up (x ∷ lens) (suc p) = omega (arith, sum_by-cons (λ n. n) x (set lens p (get_or lens p 0 + 1)), sum_by-cons (λ n. n) x lens, sum_up lens p)

sum_raised : (lens : List ℕ) (es : List Event) → sum (raised lens es) ≤ sum lens + length es
unfolding raised
sum_raised lens [] = omega arith
sum_raised lens (e ∷ es) = omega (arith, sum_raised (one_up lens e) es, sum_up lens e.process)

item_le_sum : (xs : List ℕ) (i : ℕ) → get_or xs i 0 ≤ sum xs
item_le_sum [] i = omega arith
item_le_sum (x ∷ xs) zero = omega (arith, sum_by-cons (λ n. n) x xs)
item_le_sum (x ∷ xs) (suc i) = omega (arith, sum_by-cons (λ n. n) x xs, item_le_sum xs i)

pub few_taken : (lens taken : List ℕ) (batch : List Event) (i p : ℕ) → taken ≡ raised lens (take i batch) → sum lens + length batch ≤ most_events → get_or taken p 0 ≤ most_events
few_taken lens taken batch i p is few =
    omega (arith, ap (λ (xs : List ℕ). get_or xs p 0) is, item_le_sum (raised lens (take i batch)) p, sum_raised lens (take i batch), length-take i batch)

-- ---- events that fit

pub one_fits : (procs : ℕ) (batch : List Event) (i : ℕ) (e : Event) → AllByRecursion (EventFits procs) batch → i < length batch → e ≡ get_or batch i e → EventFits procs e
one_fits procs [] i e fits lt at = absurd (omega arith)
one_fits procs (x ∷ batch) zero e fits lt at = subst (EventFits procs) (sym at) fits.0
one_fits procs (x ∷ batch) (suc i) e fits lt at = one_fits procs batch i e fits.1 (omega arith) at

pub front_fits : (procs : ℕ) (batch : List Event) (i : ℕ) → AllByRecursion (EventFits procs) batch → AllByRecursion (EventFits procs) (take i batch)
front_fits procs batch zero fits = tt
front_fits procs [] (suc i) fits = tt
front_fits procs (x ∷ batch) (suc i) fits = (fits.0, front_fits procs batch i fits.1)

-- ---- one event of a batch, counted or not yet

-- the last of the first i events of a batch, with its place and the counts without it
pub record IsLast (events : Events) (batch : List Event) (taken : List ℕ) (i : ℕ) (e : Event) (a n : ℕ) : Type 0 where
  pub next : with_batch events (take i batch) ≡ with_event (with_batch events (take (i - 1) batch)) e
  pub there : e.process < length (with_batch events (take (i - 1) batch))
  pub place_is : a ≡ place (with_batch events (take (i - 1) batch)) e
  pub without : set taken e.process n ≡ map length (with_batch events (take (i - 1) batch))

pub is_last : (events : Events) (batch : List Event) (taken : List ℕ) (i : ℕ) (e : Event) (a n : ℕ) → 1 ≤ i → i ≤ length batch → e ≡ get_or batch (i - 1) e → e.process < length taken
    → taken ≡ map length (with_batch events (take i batch)) → a ≡ get_or taken e.process a → n ≡ a - 1 → IsLast events batch taken i e a n
is_last events batch taken i e a n some le at lt counts read down =
    let one : i - 1 + 1 ≡ i = omega arith in
    let before = with_batch events (take (i - 1) batch) in
    let next : with_batch events (take i batch) ≡ with_event before e = ap (λ (k : ℕ). with_batch events (take k batch)) (sym one) ∙ batch_next events batch (i - 1) e (omega arith) at in
    let counted : taken ≡ map length (with_event before e) = counts ∙ ap (map length) next in
    let there : e.process < length before = omega (arith, ap length counted, length-map (with_event before e) (length {A = Event}), length-set before e.process (own_events before e.process ++ e ∷ [])) in
    let placed : a ≡ place before e = sym (count_is taken e.process a lt read) ∙ place_counted before e taken there counted in
    record { next = next; there = there; place_is = placed; without = one_down before e taken n there counted (omega arith) }

pub record IsNext (events : Events) (batch : List Event) (i : ℕ) (e : Event) (a : ℕ) : Type 0 where
  pub next : with_batch events (take (i + 1) batch) ≡ with_event (with_batch events (take i batch)) e
  pub there : e.process < length (with_batch events (take i batch))
  pub place_is : a ≡ place (with_batch events (take i batch)) e

pub is_next : (events : Events) (batch : List Event) (lens taken : List ℕ) (i : ℕ) (e : Event) (a : ℕ) → i < length batch → e ≡ get_or batch i e → e.process < length taken
    → taken ≡ raised lens (take i batch) → lens ≡ map length events → a ≡ get_or taken e.process a → IsNext events batch i e (a + 1)
is_next events batch lens taken i e a lt at there counts is read =
    let before = with_batch events (take i batch) in
    let counted : taken ≡ map length before = counts ∙ ap (λ (xs : List ℕ). raised xs (take i batch)) is ∙ sym (lens_raised events (take i batch)) in
    record {
      next = batch_next events batch i e lt at;
      there = omega (arith, ap length counted, length-map before (length {A = Event}));
      place_is = ap (λ (k : ℕ). k + 1) (sym (count_is taken e.process a there read)) ∙ place_next before e taken counted;
    }

pub counts_next : (batch : List Event) (lens taken : List ℕ) (i : ℕ) (e : Event) (a : ℕ) → i < length batch → e ≡ get_or batch i e → e.process < length taken
    → taken ≡ raised lens (take i batch) → a ≡ get_or taken e.process a → set taken e.process (a + 1) ≡ raised lens (take (i + 1) batch)
counts_next batch lens taken i e a lt at there counts read =
    ap (λ (k : ℕ). set taken e.process (k + 1)) (sym (count_is taken e.process a there read)) ∙ ap (λ (xs : List ℕ). one_up xs e) counts ∙ sym (raised_next lens batch i e lt at)
