-- The events of a batch by process, each known by its place in the batch.
use Rattle.std.proofs.Common.{◌≡◌, ℕ, zero, suc, ◌+◌, ◌-◌, ◌<◌, ◌≤◌, List, [], ◌∷◌, ◌++◌, length, map, take, drop, get_or, set, replicate, refl, sym, ap, append_assoc, append-nil, ◌∙◌, subst, arith, inl, inr, length-append}
use Rattle.std.specs.List.{AllByRecursion}
use Rattle.std.proofs.lemmas.Bool.{cases_Bool, cases_eq, cases_lt, cond-true, cond-false, eq-eqb, ne_eqb}
use Rattle.std.specs.Prelude.{◌==◌}
use Rattle.std.proofs.Math.ListN.{get_or-map}
use Rattle.std.proofs.lemmas.List.{length-set, length-map, map-set, length-replicate, get_or-set_same, get_or-set_other, get_or_append_left, get_or-append-add, get_or_default, take_more, take_all, take-append-drop, drop_more}
use Rattle.event_log.specs.declared.log.Event.{Event}
use Rattle.run_model.specs.Cut.{Cut, Clocks}
use Rattle.run_model.specs.Consistent.{clock}
use Rattle.causal_order.specs.Growth.{HasClock, with_row, with_clocks}
use Rattle.causal_order.proofs.Growing.{with_clocks-push, length-with_clocks, event_fits}
use Rattle.vector_clock.specs.inside.BatchPlaces.{clock_in, clocks_at, own_clocks, ArePlaces}

-- ---- the places of the first i events

pub record PlacedSoFar (procs : ℕ) (batch : List Event) (places : List (List ℕ)) (i : ℕ) : Type 0 where
  pub count : length places ≡ procs
  pub within : (p k : ℕ) → k < length (get_or places p []) → get_or (get_or places p []) k 0 < i
  pub clocks : clocks_at batch places ≡ with_clocks (replicate procs []) (take i batch)

none_at : (batch : List Event) (procs : ℕ) → clocks_at batch (replicate procs []) ≡ replicate procs []
none_at batch zero = refl
none_at batch (suc procs) = ap (λ (o : Clocks). [] ∷ o) (none_at batch procs)

no_events : (o : Clocks) (batch : List Event) → o ≡ with_clocks o (take 0 batch)
unfolding with_clocks
no_events o batch = refl

none_there : {X : Type 0} → (n p : ℕ) → get_or {A = List X} (replicate n []) p [] ≡ []
none_there zero p = refl
none_there (suc n) zero = refl
none_there (suc n) (suc p) = none_there n p

pub none_placed : (procs : ℕ) (batch : List Event) (places : List (List ℕ)) → places ≡ replicate procs [] → PlacedSoFar procs batch places 0
none_placed procs batch places is = record {
  count = ap length is ∙ length-replicate procs [];
  within = λ p k lt. absurd (omega (arith, lt, ap (λ (xs : List (List ℕ)). length (get_or xs p [])) is, ap (length {A = ℕ}) (none_there procs p)));
  clocks = ap (clocks_at batch) is ∙ none_at batch procs ∙ no_events (replicate procs []) batch;
}

pub clock_is : (batch : List Event) (i : ℕ) (e : Event) → i < length batch → e ≡ get_or batch i e → clock_in batch i ≡ e.clock
clock_is [] i e lt at = absurd (omega arith)
clock_is (x ∷ batch) zero e lt at = ap (λ (y : Event). y.clock) (sym at)
clock_is (x ∷ batch) (suc i) e lt at = clock_is batch i e (omega arith) at

map_push : (f : ℕ → Cut) (xs : List ℕ) (x : ℕ) → map f (xs ++ x ∷ []) ≡ map f xs ++ f x ∷ []
map_push f [] x = refl
map_push f (y ∷ xs) x = ap (λ (rs : List Cut). f y ∷ rs) (map_push f xs x)

-- one place more
one_at : (batch : List Event) (places : List (List ℕ)) (p i : ℕ) → clocks_at batch (set places p (get_or places p [] ++ i ∷ [])) ≡ with_row (clocks_at batch places) p (clock_in batch i)
one_at batch places p i =
    map-set (map (clock_in batch)) places p _
    ∙ ap (set (clocks_at batch places) p) (map_push (clock_in batch) (get_or places p []) i
    ∙ ap (λ (rs : List Cut). rs ++ clock_in batch i ∷ []) (sym (get_or-map (map (clock_in batch)) places p [])))

pub placed_more : (procs : ℕ) (batch : List Event) (places : List (List ℕ)) (i : ℕ) (e : Event) → PlacedSoFar procs batch places i → i < length batch → e ≡ get_or batch i e → e.process < procs
    → PlacedSoFar procs batch (set places e.process (get_or places e.process [] ++ i ∷ [])) (i + 1)
placed_more procs batch places i e so_far lt at there = record {
  count = length-set places e.process _ ∙ so_far.count;
  within = within;
  clocks = one_at batch places e.process i ∙ ap (λ (o : Clocks). with_row o e.process (clock_in batch i)) so_far.clocks
      ∙ ap (with_row (with_clocks (replicate procs []) (take i batch)) e.process) (clock_is batch i e lt at)
      ∙ sym (with_clocks-push (replicate procs []) (take i batch) e)
      ∙ ap (with_clocks (replicate procs [])) (ap (λ (x : Event). take i batch ++ x ∷ []) at ∙ sym (take_more batch i e lt));
}
  where
    own : List ℕ
    own = get_or places e.process []

    pushed : get_or (set places e.process (own ++ i ∷ [])) e.process [] ≡ own ++ i ∷ []
    pushed = get_or-set_same places e.process (own ++ i ∷ []) [] (omega (arith, there, so_far.count))

    in_own : (k : ℕ) → k < length (own ++ i ∷ []) → get_or (own ++ i ∷ []) k 0 < i + 1
    in_own k less = elim (cases_lt k (length own)) [
      | inl before ↦ omega (arith, get_or_append_left own (i ∷ []) 0 k before, so_far.within e.process k before)
      | inr last ↦
          let place : length own + 0 ≡ k = omega (arith, length-append own (i ∷ []), less, last) in
          omega (arith, ap (λ (n : ℕ). get_or (own ++ i ∷ []) n 0) (sym place), get_or-append-add own (i ∷ []) 0 0)
    ]

    within : (p k : ℕ) → k < length (get_or (set places e.process (own ++ i ∷ [])) p []) → get_or (get_or (set places e.process (own ++ i ∷ [])) p []) k 0 < i + 1
    within p k less = elim (cases_eq p e.process) [
      | inl same ↦ subst (λ (xs : List ℕ). get_or xs k 0 < i + 1) (sym (at_own p same)) (in_own k (subst (λ (xs : List ℕ). k < length xs) (at_own p same) less))
      | inr other ↦
          let kept = get_or-set_other places e.process p (own ++ i ∷ []) [] other in
          omega (arith, ap (λ (xs : List ℕ). get_or xs k 0) kept, so_far.within p k (subst (λ (xs : List ℕ). k < length xs) kept less))
    ]
      where
        at_own : (q : ℕ) → q ≡ e.process → get_or (set places e.process (own ++ i ∷ [])) q [] ≡ own ++ i ∷ []
        at_own q same = ap (λ (n : ℕ). get_or (set places e.process (own ++ i ∷ [])) n []) same ∙ pushed

pub all_placed : (procs : ℕ) (batch : List Event) (places : List (List ℕ)) (i : ℕ) → PlacedSoFar procs batch places i → i ≤ length batch → length batch ≤ i
    → ArePlaces procs batch places
all_placed procs batch places i so_far le ge =
    let all : i ≡ length batch = omega arith in
    record {
      count = so_far.count;
      within = λ p k lt. omega (arith, so_far.within p k lt);
      clocks = so_far.clocks ∙ ap (with_clocks (replicate procs [])) (take_all i batch ge);
    }

-- ---- one event

pub procs_are : (procs : ℕ) (batch : List Event) (all : Clocks) → with_clocks (replicate procs []) batch ≡ all → length all ≡ procs
procs_are procs batch all is = ap length (sym is) ∙ length-with_clocks (replicate procs []) batch ∙ length-replicate procs []

-- the clocks of one process
own_rows : (procs : ℕ) (batch : List Event) (places : List (List ℕ)) (all : Clocks) (p : ℕ) → ArePlaces procs batch places → with_clocks (replicate procs []) batch ≡ all
    → get_or all p [] ≡ map (clock_in batch) (get_or places p [])
own_rows procs batch places all p in_batch is =
    ap (λ (o : Clocks). get_or o p []) (sym (in_batch.clocks ∙ is)) ∙ get_or-map (map (clock_in batch)) places p []

pub own_len : (procs : ℕ) (batch : List Event) (places : List (List ℕ)) (all : Clocks) (p : ℕ) → ArePlaces procs batch places → with_clocks (replicate procs []) batch ≡ all
    → length (get_or all p []) ≡ length (get_or places p [])
own_len procs batch places all p in_batch is = ap length (own_rows procs batch places all p in_batch is) ∙ length-map (get_or places p []) (clock_in batch)

pub list_is : (places : List (List ℕ)) (p : ℕ) (own : List ℕ) → p < length places → own ≡ get_or places p own → own ≡ get_or places p []
list_is [] p own lt at = absurd (omega arith)
list_is (x ∷ places) zero own lt at = at
list_is (x ∷ places) (suc p) own lt at = list_is places p own (omega arith) at

clock_suc : (o : Clocks) (p k : ℕ) → clock o p (k + 1) ≡ get_or (get_or o p []) k []
unfolding clock
clock_suc o p k = let next : k + 1 ≡ suc k = omega arith in ap (λ (n : ℕ). clock o p n) next

row_at : (f : ℕ → Cut) (xs : List ℕ) (k : ℕ) → k < length xs → get_or (map f xs) k [] ≡ f (get_or xs k 0)
row_at f [] k lt = absurd (omega arith)
row_at f (x ∷ xs) zero lt = refl
row_at f (x ∷ xs) (suc k) lt = row_at f xs k (omega arith)

pub clock_at : (procs : ℕ) (batch : List Event) (places : List (List ℕ)) (all : Clocks) (p a : ℕ) (e : Event) → ArePlaces procs batch places → with_clocks (replicate procs []) batch ≡ all
    → 1 ≤ a → a ≤ length (get_or all p []) → e ≡ get_or batch (get_or (get_or places p []) (a - 1) 0) e → e.clock ≡ clock all p a
clock_at procs batch places all p a e in_batch is first last at =
    let len = own_len procs batch places all p in_batch is in
    let before : a - 1 < length (get_or places p []) = omega (arith, len, first, last) in
    let next : a - 1 + 1 ≡ a = omega (arith, first) in
    sym (ap (λ (n : ℕ). clock all p n) (sym next) ∙ clock_suc all p (a - 1) ∙ ap (λ (rs : List Cut). get_or rs (a - 1) []) (own_rows procs batch places all p in_batch is)
    ∙ row_at (clock_in batch) (get_or places p []) (a - 1) before ∙ clock_is batch (get_or (get_or places p []) (a - 1) 0) e (in_batch.within p (a - 1) before) at)

pub clock_width : (procs : ℕ) (batch : List Event) (places : List (List ℕ)) (all : Clocks) (p k : ℕ) (e : Event) → ArePlaces procs batch places → AllByRecursion (HasClock procs) batch → with_clocks (replicate procs []) batch ≡ all
    → k < length (get_or places p []) → e ≡ get_or batch (get_or (get_or places p []) k 0) e → length e.clock ≡ length all
clock_width procs batch places all p k e in_batch each is lt at =
    (event_fits procs batch (get_or (get_or places p []) k 0) e each (in_batch.within p k lt) at).width ∙ sym (procs_are procs batch all is)

-- the place that is read from the list of a process
pub read_place : (places : List (List ℕ)) (p : ℕ) (own : List ℕ) (k place : ℕ) → p < length places → own ≡ get_or places p own → k < length (get_or places p []) → place ≡ get_or own k place → place ≡ get_or (get_or places p []) k 0
read_place places p own k place there at lt is =
    let same = list_is places p own there at in
    is ∙ ap (λ (xs : List ℕ). get_or xs k place) same ∙ get_or_default (get_or places p []) k place 0 lt

-- ---- a batch that is looked through

own_append : (xs ys : List Event) (p : ℕ) → own_clocks (xs ++ ys) p ≡ own_clocks xs p ++ own_clocks ys p
own_append [] ys p = refl
own_append (e ∷ xs) ys p = elim (cases_Bool (e.process == p)) [
  | inl own ↦ cond-true (e.process == p) _ _ own ∙ ap (λ (rs : List Cut). e.clock ∷ rs) (own_append xs ys p) ∙ ap (λ (rs : List Cut). rs ++ own_clocks ys p) (sym (cond-true (e.process == p) (e.clock ∷ own_clocks xs p) (own_clocks xs p) own))
  | inr other ↦ cond-false (e.process == p) _ _ other ∙ own_append xs ys p ∙ ap (λ (rs : List Cut). rs ++ own_clocks ys p) (sym (cond-false (e.process == p) (e.clock ∷ own_clocks xs p) (own_clocks xs p) other))
]

own_split : (batch : List Event) (i : ℕ) (e : Event) (p : ℕ) → i < length batch → e ≡ get_or batch i e → own_clocks batch p ≡ own_clocks (take i batch) p ++ own_clocks (e ∷ drop (i + 1) batch) p
own_split batch i e p lt at =
    ap (λ (es : List Event). own_clocks es p) (sym (take-append-drop i batch) ∙ ap (λ (es : List Event). take i batch ++ es) (drop_more batch i e lt ∙ ap (λ (x : Event). x ∷ drop (i + 1) batch) (sym at)))
    ∙ own_append (take i batch) (e ∷ drop (i + 1) batch) p

own_take : (batch : List Event) (i : ℕ) (e : Event) (p : ℕ) → i < length batch → e ≡ get_or batch i e → own_clocks (take (i + 1) batch) p ≡ own_clocks (take i batch) p ++ own_clocks (e ∷ []) p
own_take batch i e p lt at =
    ap (λ (es : List Event). own_clocks es p) (take_more batch i e lt ∙ ap (λ (x : Event). take i batch ++ x ∷ []) (sym at)) ∙ own_append (take i batch) (e ∷ []) p

-- an event of the process, and one of another
pub one_seen : (batch : List Event) (i : ℕ) (e : Event) (p : ℕ) → i < length batch → e ≡ get_or batch i e → e.process ≡ p → length (own_clocks (take (i + 1) batch) p) ≡ length (own_clocks (take i batch) p) + 1
one_seen batch i e p lt at own =
    ap length (own_take batch i e p lt at) ∙ length-append (own_clocks (take i batch) p) (own_clocks (e ∷ []) p)
    ∙ ap (λ (rs : List Cut). length (own_clocks (take i batch) p) + length rs) (cond-true (e.process == p) (e.clock ∷ []) [] (eq-eqb e.process p own))

pub none_seen : (batch : List Event) (i : ℕ) (e : Event) (p : ℕ) → i < length batch → e ≡ get_or batch i e → (e.process ≡ p → ⊥) → length (own_clocks (take (i + 1) batch) p) ≡ length (own_clocks (take i batch) p)
none_seen batch i e p lt at other =
    ap length (own_take batch i e p lt at) ∙ length-append (own_clocks (take i batch) p) (own_clocks (e ∷ []) p)
    ∙ ap (λ (rs : List Cut). length (own_clocks (take i batch) p) + length rs) (cond-false (e.process == p) (e.clock ∷ []) [] (ne_eqb e.process p other)) ∙ omega arith

-- it is the next one of its process
pub seen_clock : (batch : List Event) (i : ℕ) (e : Event) (p : ℕ) → i < length batch → e ≡ get_or batch i e → e.process ≡ p → get_or (own_clocks batch p) (length (own_clocks (take i batch) p)) [] ≡ e.clock
seen_clock batch i e p lt at own =
    let front = own_clocks (take i batch) p in
    let rest = own_clocks (drop (i + 1) batch) p in
    let last : length front ≡ length front + 0 = omega arith in
    ap (λ (rs : List Cut). get_or rs (length front) []) (own_split batch i e p lt at ∙ ap (λ (rs : List Cut). front ++ rs) (cond-true (e.process == p) (e.clock ∷ rest) rest (eq-eqb e.process p own)))
    ∙ ap (λ (k : ℕ). get_or (front ++ e.clock ∷ rest) k []) last ∙ get_or-append-add front (e.clock ∷ rest) 0 []

rows_with : (o : Clocks) (batch : List Event) (p : ℕ) → AllByRecursion (HasClock (length o)) batch → get_or (with_clocks o batch) p [] ≡ get_or o p [] ++ own_clocks batch p
unfolding with_clocks
rows_with o [] p each = sym (append-nil (get_or o p []))
rows_with o (e ∷ batch) p each =
    rows_with (with_row o e.process e.clock) batch p (subst (λ (n : ℕ). AllByRecursion (HasClock n) batch) (sym (length-set o e.process _)) each.1)
    ∙ elim (cases_eq p e.process) [
      | inl same ↦
          ap (λ (rs : List Cut). rs ++ own_clocks batch p) (ap (λ (q : ℕ). get_or (with_row o e.process e.clock) q []) same ∙ get_or-set_same o e.process _ [] each.0.process ∙ ap (λ (q : ℕ). get_or o q [] ++ e.clock ∷ []) (sym same))
          ∙ append_assoc (get_or o p []) (e.clock ∷ []) (own_clocks batch p)
          ∙ ap (λ (rs : List Cut). get_or o p [] ++ rs) (sym (cond-true (e.process == p) (e.clock ∷ own_clocks batch p) (own_clocks batch p) (eq-eqb e.process p (sym same))))
      | inr other ↦
          ap (λ (rs : List Cut). rs ++ own_clocks batch p) (get_or-set_other o e.process p _ [] other)
          ∙ ap (λ (rs : List Cut). get_or o p [] ++ rs) (sym (cond-false (e.process == p) (e.clock ∷ own_clocks batch p) (own_clocks batch p) (ne_eqb e.process p (λ same. other (sym same)))))
    ]

pub rows_among : (procs : ℕ) (batch : List Event) (all : Clocks) (p : ℕ) → AllByRecursion (HasClock procs) batch → with_clocks (replicate procs []) batch ≡ all → own_clocks batch p ≡ get_or all p []
rows_among procs batch all p each is =
    sym (ap (λ (o : Clocks). get_or o p []) (sym is)
    ∙ rows_with (replicate procs []) batch p (subst (λ (n : ℕ). AllByRecursion (HasClock n) batch) (sym (length-replicate procs [])) each)
    ∙ ap (λ (rs : List Cut). rs ++ own_clocks batch p) (none_there procs p))

-- a clock that is read by its place
pub clock_among_is : (procs : ℕ) (batch : List Event) (all : Clocks) (p a : ℕ) → AllByRecursion (HasClock procs) batch → with_clocks (replicate procs []) batch ≡ all → 1 ≤ a → get_or (own_clocks batch p) (a - 1) [] ≡ clock all p a
clock_among_is procs batch all p a each is first =
    let next : a - 1 + 1 ≡ a = omega (arith, first) in
    ap (λ (rs : List Cut). get_or rs (a - 1) []) (rows_among procs batch all p each is) ∙ sym (clock_suc all p (a - 1)) ∙ ap (λ (n : ℕ). clock all p n) next

own_width : (procs : ℕ) (batch : List Event) (p k : ℕ) → AllByRecursion (HasClock procs) batch → k < length (own_clocks batch p) → length (get_or (own_clocks batch p) k []) ≡ procs
own_width procs [] p k each lt = absurd (omega arith)
own_width procs (e ∷ batch) p zero each lt = elim (cases_Bool (e.process == p)) [
  | inl own ↦ ap (λ (rs : List Cut). length (get_or rs 0 [])) (cond-true (e.process == p) (e.clock ∷ own_clocks batch p) (own_clocks batch p) own) ∙ each.0.width
  | inr other ↦
      let is = cond-false (e.process == p) (e.clock ∷ own_clocks batch p) (own_clocks batch p) other in
      ap (λ (rs : List Cut). length (get_or rs 0 [])) is ∙ own_width procs batch p 0 each.1 (subst (λ (rs : List Cut). 0 < length rs) is lt)
]
own_width procs (e ∷ batch) p (suc k) each lt = elim (cases_Bool (e.process == p)) [
  | inl own ↦
      let is = cond-true (e.process == p) (e.clock ∷ own_clocks batch p) (own_clocks batch p) own in
      ap (λ (rs : List Cut). length (get_or rs (suc k) [])) is ∙ own_width procs batch p k each.1 (omega (arith, lt, ap length is))
  | inr other ↦
      let is = cond-false (e.process == p) (e.clock ∷ own_clocks batch p) (own_clocks batch p) other in
      ap (λ (rs : List Cut). length (get_or rs (suc k) [])) is ∙ own_width procs batch p (suc k) each.1 (subst (λ (rs : List Cut). suc k < length rs) is lt)
]

pub width_among : (procs : ℕ) (batch : List Event) (all : Clocks) (p a : ℕ) → AllByRecursion (HasClock procs) batch → with_clocks (replicate procs []) batch ≡ all → 1 ≤ a → a ≤ length (get_or all p []) → length (get_or (own_clocks batch p) (a - 1) []) ≡ length all
width_among procs batch all p a each is first last =
    own_width procs batch p (a - 1) each (omega (arith, first, last, ap length (rows_among procs batch all p each is))) ∙ sym (procs_are procs batch all is)
