-- Clocks that grow, and that are cut back to what they were.
use Rattle.std.proofs.Common.{◌≡◌, ℕ, zero, suc, ◌+◌, ◌<◌, ◌≤◌, List, [], ◌∷◌, ◌++◌, length, map, take, get_or, set, sum, refl, sym, ap, ◌∙◌, subst, arith, inl, inr, below_more, append_assoc, append-nil, length-append}
use Rattle.std.specs.List.{AllByRecursion}
use Rattle.std.proofs.lemmas.Bool.{cases_eq}
use Rattle.std.proofs.lemmas.List.{length-set, length-map, get_or-set_same, get_or-set_other, take_more, take_at, ext_get_or}
use Rattle.std.proofs.lemmas.List.Sums.{sum_by-cons}
use Rattle.event_log.specs.declared.log.Event.{Event}
use Rattle.run_model.specs.Cut.{Cut, Clocks, lengths}
use Rattle.pota_base.specs.Limits.{most_processes}
use Rattle.causal_order.specs.Growth.{HasClock, HasGrown, with_row, with_clocks}

pub length-lengths : (o : Clocks) → length (lengths o) ≡ length o
unfolding lengths
length-lengths o = length-map o length

-- a process that isn't there has no clocks
pub count-lengths : (o : Clocks) (p : ℕ) → get_or (lengths o) p 0 ≡ length (get_or o p [])
unfolding lengths
count-lengths [] p = refl
count-lengths (x ∷ o) zero = refl
count-lengths (x ∷ o) (suc p) = count-lengths o p

pub grown_none : (o : Clocks) → HasGrown o o
grown_none o = record { count = refl; each = λ p. ([], sym (append-nil _)) }

pub grown_more : (old now : Clocks) (p : ℕ) (row : Cut) → HasGrown old now → p < length now → HasGrown old (with_row now p row)
grown_more old now p row h there = record {
  count = length-set now p _ ∙ h.count;
  each = λ q. elim (cases_eq q p) [
    | inl same ↦
        let g = h.each p in
        subst (λ (k : ℕ). (more : List Cut) × (get_or (with_row now p row) k [] ≡ get_or old k [] ++ more)) (sym same)
        (g.0 ++ row ∷ [], get_or-set_same now p _ [] there ∙ ap (λ (rs : List Cut). rs ++ row ∷ []) g.1 ∙ append_assoc (get_or old p []) g.0 (row ∷ []))
    | inr other ↦
        let g = h.each q in
        (g.0, get_or-set_other now p q _ [] other ∙ g.1)
  ];
}

pub with_clocks-push : (o : Clocks) (events : List Event) (e : Event) → with_clocks o (events ++ e ∷ []) ≡ with_row (with_clocks o events) e.process e.clock
unfolding with_clocks
with_clocks-push o [] e = refl
with_clocks-push o (f ∷ events) e = with_clocks-push (with_row o f.process f.clock) events e

-- ---- cut back

-- the clocks of the processes below i are as many as the shape says, the others are as they were
pub record CutBelow (shape : List ℕ) (old : Clocks) (i : ℕ) (now : Clocks) : Type 0 where
  pub count : length now ≡ length old
  pub below : (p : ℕ) → p < i → get_or now p [] ≡ take (get_or shape p 0) (get_or old p [])
  pub above : (p : ℕ) → i ≤ p → get_or now p [] ≡ get_or old p []

pub cut_more : (shape : List ℕ) (old now : Clocks) (i len : ℕ) → CutBelow shape old i now → i < length now → len ≡ get_or shape i 0
    → CutBelow shape old (i + 1) (set now i (take len (get_or now i [])))
cut_more shape old now i len h lt is = record {
  count = length-set now i _ ∙ h.count;
  below = below_more _ _ (λ p k. get_or-set_other now i p _ [] (λ e. absurd (omega arith)) ∙ h.below p k)
      (get_or-set_same now i _ [] lt ∙ ap (take len) (h.above i (omega arith)) ∙ ap (λ (n : ℕ). take n (get_or old i [])) is);
  above = λ p k. get_or-set_other now i p _ [] (λ e. absurd (omega arith)) ∙ h.above p (omega arith);
}

-- clocks that grew and are cut to the lengths from before are those from before
pub cut_all : (shape : List ℕ) (before old now : Clocks) (i : ℕ) → CutBelow shape old i now → length old ≤ i → HasGrown before old → shape ≡ lengths before → now ≡ before
cut_all shape before old now i h all grown lens = ext_get_or [] now before (h.count ∙ grown.count) (λ p lt.
    let g = grown.each p in
    let len : get_or shape p 0 ≡ length (get_or before p []) = ap (λ (s : List ℕ). get_or s p 0) lens ∙ count-lengths before p in
    h.below p (omega (arith, h.count)) ∙ ap (take (get_or shape p 0)) g.1 ∙ take_at (get_or before p []) g.0 (get_or shape p 0) (sym len))

-- the lengths from before are there in what grew
pub grown_fits : (shape : List ℕ) (before old : Clocks) → HasGrown before old → shape ≡ lengths before → (p : ℕ) → get_or shape p 0 ≤ length (get_or old p [])
grown_fits shape before old grown lens p =
    let g = grown.each p in
    let len : get_or shape p 0 ≡ length (get_or before p []) = ap (λ (s : List ℕ). get_or s p 0) lens ∙ count-lengths before p in
    omega (arith, len, ap length g.1, length-append (get_or before p []) g.0)

-- ---- how many clocks there are

sum-cons : (x : ℕ) (xs : List ℕ) → sum (x ∷ xs) ≡ x + sum xs
sum-cons x xs = sum_by-cons (λ n. n) x xs

pub item_le_sum : (xs : List ℕ) (i : ℕ) → get_or xs i 0 ≤ sum xs
item_le_sum [] i = omega arith
item_le_sum (x ∷ xs) zero = omega (arith, sum-cons x xs)
item_le_sum (x ∷ xs) (suc i) = omega (arith, sum-cons x xs, item_le_sum xs i)

sum_longer : (o : Clocks) (p : ℕ) (row : Cut) → sum (map length (with_row o p row)) ≤ sum (map length o) + 1
sum_longer [] p row = omega arith
sum_longer (rs ∷ o) zero row =
    omega (arith, sum-cons (length (rs ++ row ∷ [])) (map length o), sum-cons (length rs) (map length o), length-append rs (row ∷ []))
sum_longer (rs ∷ o) (suc p) row =
    omega (arith, sum-cons (length rs) (map length (with_row o p row)), sum-cons (length rs) (map length o), sum_longer o p row)

sum_with : (o : Clocks) (events : List Event) → sum (map length (with_clocks o events)) ≤ sum (map length o) + length events
unfolding with_clocks
sum_with o [] = omega arith
sum_with o (e ∷ events) = omega (arith, sum_with (with_row o e.process e.clock) events, sum_longer o e.process e.clock)

pub sum_grown : (o : Clocks) (events : List Event) → sum (lengths (with_clocks o events)) ≤ sum (lengths o) + length events
unfolding lengths
sum_grown o events = sum_with o events

pub length-with_clocks : (o : Clocks) (events : List Event) → length (with_clocks o events) ≡ length o
unfolding with_clocks
length-with_clocks o [] = refl
length-with_clocks o (e ∷ events) = length-with_clocks (with_row o e.process e.clock) events ∙ length-set o e.process _

-- ---- events one by one

-- the first i events are there
pub record AddedSoFar (old : Clocks) (events : List Event) (i : ℕ) (now : Clocks) : Type 0 where
  pub clocks : now ≡ with_clocks old (take i events)
  pub grown : HasGrown old now

pub so_far_none : (old : Clocks) (events : List Event) → AddedSoFar old events 0 old
unfolding with_clocks
so_far_none old events = record { clocks = refl; grown = grown_none old }

pub so_far_more : (old now now' : Clocks) (events : List Event) (i : ℕ) (e : Event) → AddedSoFar old events i now → i < length events → e ≡ get_or events i e
    → e.process < length now → now' ≡ with_row now e.process e.clock → AddedSoFar old events (i + 1) now'
so_far_more old now now' events i e h lt at there is = record {
  clocks = is ∙ ap (λ (o : Clocks). with_row o e.process e.clock) h.clocks ∙ sym (with_clocks-push old (take i events) e)
      ∙ ap (with_clocks old) (ap (λ (x : Event). take i events ++ x ∷ []) at ∙ sym (take_more events i e lt));
  grown = subst (HasGrown old) (sym is) (grown_more old now e.process e.clock h.grown there);
}

pub event_fits : (procs : ℕ) (events : List Event) (i : ℕ) (e : Event) → AllByRecursion (HasClock procs) events → i < length events → e ≡ get_or events i e → HasClock procs e
event_fits procs [] i e all lt at = absurd (omega arith)
event_fits procs (x ∷ events) zero e all lt at = subst (HasClock procs) (sym at) all.0
event_fits procs (x ∷ events) (suc i) e all lt at = event_fits procs events i e all.1 (omega arith) at

pub clocks_within : (procs : ℕ) (events : List Event) → procs ≤ most_processes → AllByRecursion (HasClock procs) events → AllByRecursion (λ (e : Event). e.process < most_processes) events
clocks_within procs [] few all = tt
clocks_within procs (e ∷ events) few all = (omega (arith, all.0.process), clocks_within procs events few all.1)
