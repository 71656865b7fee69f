-- Events gathered one after the other.
use Rattle.std.proofs.Common.{◌≡◌, ℕ, zero, suc, ◌+◌, ◌-◌, ◌<◌, ◌≤◌, false, Option, Some, None, List, [], ◌∷◌, ◌++◌, length, take, get_or, refl, sym, ap, ◌∙◌, subst, arith, append_assoc, inl, inr}
use Rattle.std.specs.Prelude.{◌==◌, slice_get}
use Rattle.std.proofs.lemmas.Bool.{cases_Bool, ne_eqb, eqb-true}
use Rattle.std.proofs.lemmas.List.{append-nil, map-append, length-map, length-append, length-take-le}
use Rattle.std.proofs.lemmas.List.Sums.{sum_by-cons}
use Rattle.pota_base.specs.Limits.{most_events}
use Rattle.event_log.specs.declared.log.Binding.{Binding}
use Rattle.event_log.specs.declared.log.Event.{Event}
use Rattle.event_log.specs.declared.log.Log.{Log}
use Rattle.event_log.specs.Numbers.{variables_at}
use Rattle.log_merge.specs.declared.gathering.Gathered.{Gathered}
use Rattle.log_merge.specs.declared.merged.Origin.{Origin}
use Rattle.log_merge.specs.Sources.{all_events, events_of, events_in}
use Rattle.log_merge.specs.Merging.{Placed, placed_events, placed_in, placed_from, of_process, by_process, numbered, origins, variables_in, all_variables}
use Rattle.log_merge.specs.Owners.{IsOwner, numbered_source}
use Rattle.log_merge.specs.inside.Owners.{Gathers}
use Rattle.log_merge.proofs.Lists.{item_taken}

numbered-append : (n : ℕ) (xs ys : List Placed) → numbered n (xs ++ ys) ≡ numbered n xs ++ numbered (n + length xs) ys
numbered-append n [] ys = let e : n + 0 ≡ n = omega arith in rw e refl
numbered-append n (x ∷ xs) ys =
    let first : Event = record x.event { line = n } in
    let e : n + 1 + length xs ≡ n + suc (length xs) = omega arith in
    ap (λ (es : List Event). first ∷ es) (numbered-append (n + 1) xs ys ∙ ap (λ (k : ℕ). numbered (n + 1) xs ++ numbered k ys) e)

pub length-numbered : (n : ℕ) (xs : List Placed) → length (numbered n xs) ≡ length xs
length-numbered n [] = refl
length-numbered n (x ∷ xs) = ap suc (length-numbered (n + 1) xs)

pub length-gathers : (a b : Gathered) (xs : List Placed) → Gathers a b xs → length b.events ≡ length a.events + length xs
length-gathers a b xs g = ap length g.events ∙ length-append a.events (numbered (length a.events + 1) xs) ∙ ap (λ (n : ℕ). length a.events + n) (length-numbered (length a.events + 1) xs)

pub gathers_more : (a b c : Gathered) (xs ys : List Placed) → Gathers a b xs → Gathers b c ys → Gathers a c (xs ++ ys)
gathers_more a b c xs ys g h =
    let n = length a.events + 1 in
    let next : length b.events + 1 ≡ n + length xs = omega (arith, length-gathers a b xs g) in
    record {
      events = h.events ∙ ap (λ (es : List Event). es ++ numbered (length b.events + 1) ys) g.events ∙ append_assoc a.events (numbered n xs) (numbered (length b.events + 1) ys)
          ∙ ap (λ (k : ℕ). a.events ++ (numbered n xs ++ numbered k ys)) next ∙ ap (λ (es : List Event). a.events ++ es) (sym (numbered-append n xs ys));
      origins_are = h.origins_are ∙ ap (λ (os : List Origin). os ++ origins ys) g.origins_are ∙ append_assoc a.origins (origins xs) (origins ys)
          ∙ ap (λ (os : List Origin). a.origins ++ os) (sym (map-append (λ (x : Placed). record { source = x.source; line = x.event.line }) xs ys));
    }

-- one event more of these
pub gathers_event : (a b c : Gathered) (n : ℕ) (events : List Event) (i : ℕ) (e : Event) → i < length events → e ≡ get_or events i e
    → Gathers a b (placed_events n (take i events)) → Gathers b c (record { source = n; event = e } ∷ []) → Gathers a c (placed_events n (take (i + 1) events))
gathers_event a b c n events i e lt is g h =
    let place : Event → Placed = λ (x : Event). record { source = n; event = x } in
    subst (Gathers a c) (sym (map-append place (take i events) (e ∷ [])) ∙ ap (placed_events n) (sym (item_taken events i e lt is))) (gathers_more a b c (placed_events n (take i events)) (placed_events n (e ∷ [])) g h)

all_events-push : (bs : List (List Event)) (b : List Event) → all_events (bs ++ b ∷ []) ≡ all_events bs ++ b
all_events-push [] b = append-nil b
all_events-push (x ∷ bs) b = ap (λ (es : List Event). x ++ es) (all_events-push bs b) ∙ sym (append_assoc x (all_events bs) b)

pub all_events-taken : (bs : List (List Event)) (i : ℕ) (b : List Event) → i < length bs → b ≡ get_or bs i b → all_events (take (i + 1) bs) ≡ all_events (take i bs) ++ b
all_events-taken bs i b lt is = ap all_events (item_taken bs i b lt is) ∙ all_events-push (take i bs) b

pub length-all_taken : (bs : List (List Event)) (i : ℕ) → length (all_events (take i bs)) ≤ length (all_events bs)
length-all_taken [] zero = omega arith
length-all_taken [] (suc i) = omega arith
length-all_taken (b ∷ bs) zero = omega arith
length-all_taken (b ∷ bs) (suc i) = omega (arith, length-all_taken bs i, length-append b (all_events (take i bs)), length-append b (all_events bs))

pub gathers_batch : (a b c : Gathered) (n : ℕ) (batches : List (List Event)) (i : ℕ) (batch : List Event) → i < length batches → batch ≡ get_or batches i batch
    → Gathers a b (placed_events n (all_events (take i batches))) → Gathers b c (placed_events n batch) → Gathers a c (placed_events n (all_events (take (i + 1) batches)))
gathers_batch a b c n batches i batch lt is g h =
    let place : Event → Placed = λ (x : Event). record { source = n; event = x } in
    subst (Gathers a c) (sym (map-append place (all_events (take i batches)) batch) ∙ ap (placed_events n) (sym (all_events-taken batches i batch lt is)))
    (gathers_more a b c (placed_events n (all_events (take i batches))) (placed_events n batch) g h)

-- there is room for one batch more
pub room_batch : (a b : Gathered) (n : ℕ) (batches : List (List Event)) (i : ℕ) (batch : List Event) → i < length batches → batch ≡ get_or batches i batch
    → Gathers a b (placed_events n (all_events (take i batches))) → length a.events + length (all_events batches) ≤ most_events → length b.events + length batch ≤ most_events
room_batch a b n batches i batch lt is g room =
    let place : Event → Placed = λ (x : Event). record { source = n; event = x } in
    let taken = ap length (all_events-taken batches i batch lt is) in
    omega (arith, room, length-gathers a b (placed_events n (all_events (take i batches))) g, length-map (all_events (take i batches)) place, taken, length-append (all_events (take i batches)) batch, length-all_taken batches (i + 1))

-- ---- the events of one process after the other

by_none : (p n : ℕ) → by_process p n [] ≡ []
by_none p zero = refl
by_none p (suc n) = by_none (p + 1) n

below : (p n : ℕ) (x : Placed) (xs : List Placed) → x.event.process < p → by_process p n (x ∷ xs) ≡ by_process p n xs
below p zero x xs lt = refl
below p (suc n) x xs lt =
    let other : (x.event.process == p) ≡ false = ne_eqb x.event.process p (λ e. absurd (omega (arith, e))) in
    ap (λ (ys : List Placed). of_process p (x ∷ xs) ++ ys) (below (p + 1) n x xs (omega arith)) ∙ rw other refl

at_most : (p n : ℕ) (x : Placed) (xs : List Placed) → length (by_process p n (x ∷ xs)) ≤ 1 + length (by_process p n xs)
at_most p zero x xs = omega arith
at_most p (suc n) x xs = elim (cases_Bool (x.event.process == p)) [
  | inl here ↦
      let rest = below (p + 1) n x xs (omega (arith, eqb-true x.event.process p here)) in
      rw (here, rest) (omega (arith, length-append (of_process p xs) (by_process (p + 1) n xs)))
  | inr other ↦ rw other (omega (arith, at_most (p + 1) n x xs, length-append (of_process p xs) (by_process (p + 1) n (x ∷ xs)), length-append (of_process p xs) (by_process (p + 1) n xs)))
]

pub length-by_process : (p n : ℕ) (xs : List Placed) → length (by_process p n xs) ≤ length xs
length-by_process p n [] = rw (by_none p n) (omega arith)
length-by_process p n (x ∷ xs) = omega (arith, at_most p n x xs, length-by_process p n xs)

pub length-placed : (n : ℕ) (sources : List Log) → length (placed_from n sources) ≡ events_in sources
length-placed n [] = refl
length-placed n (s ∷ rest) = omega (arith, length-append (placed_in n s) (placed_from (n + 1) rest), length-map (events_of s) (λ (e : Event). let x : Placed = record { source = n; event = e } in x), length-placed (n + 1) rest, sum_by-cons (λ (x : Log). length (events_of x)) s rest)

-- one process more
pub by_process-more : (p n : ℕ) (xs : List Placed) → by_process p (n + 1) xs ≡ by_process p n xs ++ of_process (p + n) xs
by_process-more p zero xs =
    let e : p + 0 ≡ p = omega arith in
    append-nil (of_process p xs) ∙ ap (λ (k : ℕ). of_process k xs) (sym e)
by_process-more p (suc n) xs =
    let e : p + 1 + n ≡ p + suc n = omega arith in
    let one : suc n + 1 ≡ suc (n + 1) = omega arith in
    rw one (ap (λ (ys : List Placed). of_process p xs ++ ys) (by_process-more (p + 1) n xs) ∙ sym (append_assoc (of_process p xs) (by_process (p + 1) n xs) (of_process (p + 1 + n) xs))
    ∙ ap (λ (k : ℕ). (of_process p xs ++ by_process (p + 1) n xs) ++ of_process k xs) e)

pub gathers_process : (a b c : Gathered) (p : ℕ) (xs : List Placed) → Gathers a b (by_process 0 p xs) → Gathers b c (of_process p xs) → Gathers a c (by_process 0 (p + 1) xs)
gathers_process a b c p xs g h =
    let e : 0 + p ≡ p = omega arith in
    subst (Gathers a c) (sym (by_process-more 0 p xs ∙ ap (λ (k : ℕ). by_process 0 p xs ++ of_process k xs) e)) (gathers_more a b c (by_process 0 p xs) (of_process p xs) g h)

pub room_process : (a b : Gathered) (p : ℕ) (sources : List Log) → Gathers a b (by_process 0 p (placed_from 1 sources)) → a.events ≡ [] → events_in sources ≤ most_events
    → length b.events + length (of_process p (placed_from 1 sources)) ≤ most_events
room_process a b p sources g none few =
    let xs = placed_from 1 sources in
    let e : 0 + p ≡ p = omega arith in
    let more : by_process 0 (p + 1) xs ≡ by_process 0 p xs ++ of_process p xs = by_process-more 0 p xs ∙ ap (λ (k : ℕ). by_process 0 p xs ++ of_process k xs) e in
    omega (arith, few, ap length none, length-gathers a b (by_process 0 p xs) g, ap length more, length-append (by_process 0 p xs) (of_process p xs), length-by_process 0 (p + 1) xs, length-placed 1 sources)

-- ---- what an owner has

source_there : (owner : ℕ) (sources : List Log) (s : Log) → 0 < owner → owner ≤ length sources → s ≡ get_or sources (owner - 1) s → numbered_source owner sources ≡ Some s
source_there zero sources s some few is = absurd (omega arith)
source_there (suc n) sources s some few is = let e : suc n - 1 ≡ n = omega arith in at n sources (omega arith) (is ∙ ap (λ (k : ℕ). get_or sources k s) e)
  where
    at : (k : ℕ) (xs : List Log) → k < length xs → s ≡ get_or xs k s → slice_get xs k ≡ Some s
    at k [] lt h = absurd (omega arith)
    at zero (x ∷ xs) lt h = ap (λ (y : Log). Some y) (sym h)
    at (suc k) (x ∷ xs) lt h = at k xs (omega arith) h

module _ (sources : List Log) (p : ℕ) (owner : Option ℕ) (o : IsOwner sources p owner) where
  pub owned_none : owner ≡ None → (of_process p (placed_from 1 sources) ≡ []) × (variables_in p sources ≡ [])
  owned_none is =
      let i = subst (IsOwner sources p) is o in
      (i.events, i.variables)

  pub owned_by : (n : ℕ) (s : Log) → owner ≡ Some n → s ≡ get_or sources (n - 1) s → (of_process p (placed_from 1 sources) ≡ placed_in n s) × (variables_in p sources ≡ variables_at s.header.vars p)
  owned_by n s is source_is =
      let i = subst (IsOwner sources p) is o in
      let there = source_there n sources s i.there.0 i.there.1 source_is in
      (i.events ∙ rw there refl, i.variables ∙ rw there refl)

pub variables-more : (p n : ℕ) (vars : List (List Binding)) (all : List (List Binding)) (sources : List Log) → p < n
    → vars ++ all_variables p (n - p) sources ≡ all → (vars ++ variables_in p sources ∷ []) ++ all_variables (p + 1) (n - (p + 1)) sources ≡ all
variables-more p n vars all sources lt h =
    let e : n - p ≡ suc (n - (p + 1)) = omega arith in
    append_assoc vars (variables_in p sources ∷ []) (all_variables (p + 1) (n - (p + 1)) sources) ∙ sym (ap (λ (k : ℕ). vars ++ all_variables p k sources) e) ∙ h

pub no_variables_there : (vars : List (List Binding)) (p : ℕ) → length vars ≤ p → variables_at vars p ≡ []
no_variables_there [] p le = refl
no_variables_there (v ∷ vars) zero le = absurd (omega arith)
no_variables_there (v ∷ vars) (suc p) le = no_variables_there vars p (omega arith)

pub room_event : (a b : Gathered) (n : ℕ) (events : List Event) (i : ℕ) → i < length events → Gathers a b (placed_events n (take i events)) → length a.events + length events ≤ most_events → length b.events < most_events
room_event a b n events i lt g room =
    let place : Event → Placed = λ (x : Event). record { source = n; event = x } in
    omega (arith, length-gathers a b (placed_events n (take i events)) g, length-map (take i events) place, length-take-le i events (omega (arith, lt)))

-- the same over a slice of the batches
pub gathers_step : (a b c : Gathered) (n : ℕ) (batches slice : List (List Event)) (i : ℕ) (batch part : List Event) → slice ≡ batches → i < length slice → batch ≡ get_or slice i batch → part ≡ batch
    → Gathers a b (placed_events n (all_events (take i batches))) → Gathers b c (placed_events n part) → Gathers a c (placed_events n (all_events (take (i + 1) batches)))
gathers_step a b c n batches slice i batch part same lt is part_is g h =
    gathers_batch a b c n batches i batch (omega (arith, ap length same, lt)) (is ∙ ap (λ (bs : List (List Event)). get_or bs i batch) same) g (subst (λ (es : List Event). Gathers b c (placed_events n es)) part_is h)

pub room_step : (a b : Gathered) (n : ℕ) (batches slice : List (List Event)) (i : ℕ) (batch part : List Event) → slice ≡ batches → i < length slice → batch ≡ get_or slice i batch → part ≡ batch
    → Gathers a b (placed_events n (all_events (take i batches))) → length a.events + length (all_events batches) ≤ most_events → length b.events + length part ≤ most_events
room_step a b n batches slice i batch part same lt is part_is g room =
    omega (arith, ap length part_is, room_batch a b n batches i batch (omega (arith, ap length same, lt)) (is ∙ ap (λ (bs : List (List Event)). get_or bs i batch) same) g room)
