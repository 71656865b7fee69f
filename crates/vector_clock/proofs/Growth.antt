-- The clocks of events that are added.
use Rattle.std.proofs.Common.{◌≡◌, ℕ, zero, suc, ◌+◌, ◌-◌, ◌<◌, ◌≤◌, List, [], ◌∷◌, ◌++◌, length, map, get_or, set, replicate, refl, sym, ap, ◌∙◌, subst, arith, inl, inr, append_assoc}
use Rattle.std.specs.List.{AllByRecursion}
use Rattle.std.proofs.lemmas.Bool.{cases_eq, cases_lt}
use Rattle.std.proofs.lemmas.List.{length-set, length-map, map-set, get_or-set_same, get_or-set_other, get_or-append-add, length-append}
use Rattle.event_log.specs.declared.log.Event.{Event}
use Rattle.event_log.specs.States.{with_event, with_batch}
use Rattle.run_model.specs.Cut.{Cut, Clocks, count, lengths}
use Rattle.run_model.specs.Consistent.{clock}
use Rattle.causal_order.specs.Growth.{HasClock, HasGrown, with_row, with_clocks}
use Rattle.causal_order.proofs.Growing.{count-lengths, grown_more}
use Rattle.vector_clock.specs.Events.{Events, EventFits, own_events, clocks_of, no_events}
use Rattle.vector_clock.specs.Sound.{IsSound}
use Rattle.vector_clock.proofs.SoundOrders.{AllSound}

pub length-clocks_of : (events : Events) → length (clocks_of events) ≡ length events
length-clocks_of events = length-map events (map (λ (e : Event). e.clock))

-- the clocks of one process
pub own_clocks : (events : Events) (p : ℕ) → get_or (clocks_of events) p [] ≡ map (λ (e : Event). e.clock) (own_events events p)
own_clocks [] p = refl
own_clocks (es ∷ events) zero = refl
own_clocks (es ∷ events) (suc p) = own_clocks events p

pub own_count : (events : Events) (p : ℕ) → length (get_or (clocks_of events) p []) ≡ length (own_events events p)
own_count events p = ap length (own_clocks events p) ∙ length-map (own_events events p) (λ (e : Event). e.clock)

pub lengths_of : (events : Events) → lengths (clocks_of events) ≡ map length events
unfolding lengths
lengths_of [] = refl
lengths_of (es ∷ events) = λ i. length-map es (λ (e : Event). e.clock) i ∷ lengths_of events i

pub clocks_one : (events : Events) (e : Event) → clocks_of (with_event events e) ≡ with_row (clocks_of events) e.process e.clock
clocks_one events e =
    map-set (map (λ (x : Event). x.clock)) events e.process _
    ∙ ap (set (clocks_of events) e.process) (push (own_events events e.process) ∙ ap (λ (rs : List Cut). rs ++ e.clock ∷ []) (sym (own_clocks events e.process)))
  where
    push : (es : List Event) → map (λ (x : Event). x.clock) (es ++ e ∷ []) ≡ map (λ (x : Event). x.clock) es ++ e.clock ∷ []
    push [] = refl
    push (x ∷ es) = ap (λ (rs : List Cut). x.clock ∷ rs) (push es)

pub clocks_more : (events : Events) (batch : List Event) → clocks_of (with_batch events batch) ≡ with_clocks (clocks_of events) batch
unfolding with_batch with_clocks
clocks_more events [] = refl
clocks_more events (e ∷ batch) = clocks_more (with_event events e) batch ∙ ap (λ (o : Clocks). with_clocks o batch) (clocks_one events e)

pub clocks_none : (n : ℕ) → clocks_of (no_events n) ≡ replicate n []
clocks_none zero = refl
clocks_none (suc n) = ap (λ (o : Clocks). [] ∷ o) (clocks_none n)

pub length-with_batch : (events : Events) (batch : List Event) → length (with_batch events batch) ≡ length events
unfolding with_batch
length-with_batch events [] = refl
length-with_batch events (e ∷ batch) = length-with_batch (with_event events e) batch ∙ length-set events e.process _

-- ---- what is there before stays

pub fits_have_clocks : (procs : ℕ) (batch : List Event) → AllByRecursion (EventFits procs) batch → AllByRecursion (HasClock procs) batch
fits_have_clocks procs [] fits = tt
fits_have_clocks procs (e ∷ batch) fits = (fits.0.clock, fits_have_clocks procs batch fits.1)

pub grown_with : (old now : Clocks) (batch : List Event) → HasGrown old now → AllByRecursion (HasClock (length now)) batch → HasGrown old (with_clocks now batch)
unfolding with_clocks
grown_with old now [] grown fits = grown
grown_with old now (e ∷ batch) grown fits =
    grown_with old (with_row now e.process e.clock) batch (grown_more old now e.process e.clock grown fits.0.process)
    (subst (λ (n : ℕ). AllByRecursion (HasClock n) batch) (sym (length-set now e.process _)) fits.1)

pub clock_suc : (o : Clocks) (p a : ℕ) → clock o p (suc a) ≡ get_or (get_or o p []) a []
unfolding clock
clock_suc o p a = refl

pub clock_behind : (o : Clocks) (p n : ℕ) → clock o p (n + 1) ≡ get_or (get_or o p []) (n + 1 - 1) []
clock_behind o p n =
    let next : n + 1 ≡ suc n = omega arith in
    let place : n ≡ n + 1 - 1 = omega arith in
    ap (λ (k : ℕ). clock o p k) next ∙ clock_suc o p n ∙ ap (λ (k : ℕ). get_or (get_or o p []) k []) place

-- the row that comes next is the clock at the next place
pub next_clock : (o all : Clocks) (p : ℕ) (row : Cut) → HasGrown (with_row o p row) all → p < length o → clock all p (length (get_or o p []) + 1) ≡ row
next_clock o all p row grown lt =
    let g = grown.each p in
    let rows = get_or o p [] in
    let at : length rows + 1 - 1 ≡ length rows + 0 = omega arith in
    clock_behind all p (length rows)
    ∙ ap (λ (rs : List Cut). get_or rs (length rows + 1 - 1) []) (g.1 ∙ ap (λ (rs : List Cut). rs ++ g.0) (get_or-set_same o p _ [] lt) ∙ append_assoc rows (row ∷ []) g.0)
    ∙ ap (λ (k : ℕ). get_or (rows ++ (row ∷ g.0)) k []) at ∙ get_or-append-add rows (row ∷ g.0) 0 []

pub next_there : (o all : Clocks) (p : ℕ) (row : Cut) → HasGrown (with_row o p row) all → p < length o → length (get_or o p []) + 1 ≤ length (get_or all p [])
next_there o all p row grown lt =
    let g = grown.each p in
    omega (arith, ap length g.1, length-append (get_or (with_row o p row) p []) g.0, ap length (get_or-set_same o p (get_or o p [] ++ row ∷ []) [] lt), length-append (get_or o p []) (row ∷ []))

-- one event more without a fault
pub sound_more : (o all : Clocks) (p : ℕ) (row : Cut) → AllSound o all → p < length o → IsSound all p (length (get_or o p []) + 1) → AllSound (with_row o p row) all
sound_more o all p row sound lt new i a ev = elim (cases_eq i p) [
  | inl same ↦
      let len : count (lengths (with_row o p row)) p ≡ length (get_or o p []) + 1 =
      count-lengths (with_row o p row) p ∙ ap length (get_or-set_same o p (get_or o p [] ++ row ∷ []) [] lt) ∙ length-append (get_or o p []) (row ∷ []) in
      let upto : a ≤ count (lengths (with_row o p row)) p = subst (λ (k : ℕ). a ≤ count (lengths (with_row o p row)) k) same ev.1 in
      elim (cases_lt (length (get_or o p [])) a) [
        | inl last ↦
            let is : length (get_or o p []) + 1 ≡ a = omega arith in
            subst (λ (k : ℕ). IsSound all k a) (sym same) (subst (IsSound all p) is new)
        | inr old ↦ subst (λ (k : ℕ). IsSound all k a) (sym same) (sound p a (ev.0, omega (arith, count-lengths o p)))
      ]
  | inr other ↦ sound i a (ev.0, omega (arith, ev.1, count-lengths o i, count-lengths (with_row o p row) i, ap length (get_or-set_other o p i (get_or o p [] ++ row ∷ []) [] other)))
]
