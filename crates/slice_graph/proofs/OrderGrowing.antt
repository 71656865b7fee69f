-- The pulls of an order that has grown.
use Rattle.std.proofs.Common.{◌≡◌, ℕ, zero, suc, ◌+◌, ◌-◌, ◌*◌, ◌<◌, ◌≤◌, min, eqb, List, [], ◌∷◌, ◌++◌, length, get_or, flat_map, refl, sym, ap, ◌∙◌, subst, arith, length-append}
use Rattle.std.specs.List.{range_with_len}
use Rattle.std.specs.Prelude.{Bool, true, false, if◌then◌else◌}
use Rattle.std.proofs.lemmas.List.{get_or_append_left}
use Rattle.run_model.specs.Cut.{Cut, Clocks, count, lengths}
use Rattle.run_model.specs.Consistent.{IsOrder, clock}
use Rattle.causal_order.specs.Growth.{HasGrown}
use Rattle.causal_order.proofs.Growing.{count-lengths}
use Rattle.pull_system.specs.declared.pull.Pull.{Pull}
use Rattle.pull_system.specs.System.{no_pull}
use Rattle.pull_system.specs.Growth.{PullGrows, PullStays}
use Rattle.pull_system.proofs.Staying.{AllStay, stay_none, stay_one, stay_flat}
use Rattle.slice_graph.specs.PullLists.{past_count, order_entry, order_table, order_pull}
use Rattle.slice_graph.specs.PullLists.{pulls_of_order}
use Rattle.slice_graph.proofs.OrderPulls.{entry_at, counts_rise, order_pulls_count}

-- ---- one pull

pub lengths_grow : (before after : Clocks) → HasGrown before after → (i : ℕ) → count (lengths before) i ≤ count (lengths after) i
lengths_grow before after grown i =
    let g = grown.each i in
    omega (arith, count-lengths before i, count-lengths after i, ap length g.1, length-append (get_or before i []) g.0)

clock_kept : (before after : Clocks) → HasGrown before after → (i a : ℕ) → 0 < a → a ≤ count (lengths before) i → clock before i a ≡ clock after i a
unfolding clock
clock_kept before after grown i zero pos there = absurd (omega arith)
clock_kept before after grown i (suc a) pos there =
    let g = grown.each i in
    sym (ap (λ (row : List Cut). get_or row a []) g.1 ∙ get_or_append_left (get_or before i []) g.0 [] a (omega (arith, there, count-lengths before i)))

pub past_kept : (before after : Clocks) → HasGrown before after → (i j x : ℕ) → x ≤ count (lengths before) i → past_count before i j x ≡ past_count after i j x
past_kept before after grown i j zero there = refl
past_kept before after grown i j (suc x) there = ap (λ (c : Cut). count c j) (clock_kept before after grown i (suc x) (omega arith) there)

pull_grows : (before after : Clocks) → IsOrder after → HasGrown before after → (i j : ℕ)
    → PullGrows (lengths before) (lengths after) (record { src = i; dst = j; table = order_table before i j }) (record { src = i; dst = j; table = order_table after i j })
pull_grows before after order grown i j = record {
  source = refl;
  target = refl;
  asks = λ x le.
      let old : ℕ = count (lengths before) i in
      let new : ℕ = count (lengths after) i in
      let up = lengths_grow before after grown i in
      let y : ℕ = min x (old + 1) in
      let at_old = entry_at (order_entry before i j) (old + 2) y (omega arith) in
      let at_new = entry_at (order_entry after i j) (new + 2) x (omega (arith, le)) in
      let kept = past_kept before after grown i j (min y old) (omega arith) in
      let rise = counts_rise after order i j (min y old) (min x new) (omega (arith, up)) (omega arith) in
      omega (arith, at_old, at_new, kept, rise);
}

-- ---- list by list

-- each pull of the second list asks at least what its counterpart in the first does
record GrowsEach (old new : List ℕ) (ps qs : List Pull) : Type 0 where
  count : length ps ≡ length qs
  each : (k : ℕ) → k < length qs → PullGrows old new (get_or ps k no_pull) (get_or qs k no_pull)

each_none : (old new : List ℕ) → GrowsEach old new [] []
each_none old new = record { count = refl; each = λ k lt. absurd (omega arith) }

each_cons : (old new : List ℕ) (p q : Pull) (ps qs : List Pull) → PullGrows old new p q → GrowsEach old new ps qs → GrowsEach old new (p ∷ ps) (q ∷ qs)
each_cons old new p q ps qs one h = record { count = ap (λ (n : ℕ). suc n) h.count; each = at }
  where
    at : (k : ℕ) → k < length (q ∷ qs) → PullGrows old new (get_or (p ∷ ps) k no_pull) (get_or (q ∷ qs) k no_pull)
    at zero lt = one
    at (suc k) lt = h.each k (omega arith)

each_on : (old new : List ℕ) (ps qs rs ts : List Pull) → GrowsEach old new ps qs → GrowsEach old new rs ts → GrowsEach old new (ps ++ rs) (qs ++ ts)
each_on old new [] [] rs ts h k = k
each_on old new [] (q ∷ qs) rs ts h k = absurd (let c = h.count in omega arith)
each_on old new (p ∷ ps) [] rs ts h k = absurd (let c = h.count in omega arith)
each_on old new (p ∷ ps) (q ∷ qs) rs ts h k =
    each_cons old new p q (ps ++ rs) (qs ++ ts) (h.each 0 (omega arith))
    (each_on old new ps qs rs ts (record { count = let c = h.count in omega arith; each = λ n lt. h.each (suc n) (omega arith) }) k)

each_flat : (old new : List ℕ) (f g : ℕ → List Pull) (a n : ℕ) → ((k : ℕ) → GrowsEach old new (f k) (g k)) → GrowsEach old new (flat_map f (range_with_len a n)) (flat_map g (range_with_len a n))
each_flat old new f g a zero h = each_none old new
each_flat old new f g a (suc n) h =
    each_on old new (f a) (g a) (flat_map f (range_with_len (a + 1) n)) (flat_map g (range_with_len (a + 1) n)) (h a) (each_flat old new f g (a + 1) n h)

pair_grows : (before after : Clocks) → IsOrder after → HasGrown before after → (i j : ℕ) → GrowsEach (lengths before) (lengths after) (order_pull before i j) (order_pull after i j)
pair_grows before after order grown i j = choose (eqb i j)
  where
    choose : (b : Bool) → GrowsEach (lengths before) (lengths after)
        (if b then [] else record { src = i; dst = j; table = order_table before i j } ∷ [])
        (if b then [] else record { src = i; dst = j; table = order_table after i j } ∷ [])
    choose true = each_none (lengths before) (lengths after)
    choose false = each_cons (lengths before) (lengths after) (record { src = i; dst = j; table = order_table before i j }) (record { src = i; dst = j; table = order_table after i j })
        [] [] (pull_grows before after order grown i j) (each_none (lengths before) (lengths after))

pub order_count : (before after : Clocks) → HasGrown before after → length (pulls_of_order before) ≡ length (pulls_of_order after)
order_count before after grown =
    order_pulls_count before ∙ ap (λ (n : ℕ). n * (n - 1)) (sym grown.count) ∙ sym (order_pulls_count after)

pub order_each : (before after : Clocks) → IsOrder after → HasGrown before after → (k : ℕ) → k < length (pulls_of_order after)
    → PullGrows (lengths before) (lengths after) (get_or (pulls_of_order before) k no_pull) (get_or (pulls_of_order after) k no_pull)
order_each before after order grown k lt =
    (subst (λ (n : ℕ). GrowsEach (lengths before) (lengths after) (flat_map (λ i. flat_map (order_pull before i) (range_with_len 0 n)) (range_with_len 0 n)) (pulls_of_order after))
    grown.count (each_flat (lengths before) (lengths after) (λ i. flat_map (order_pull before i) (range_with_len 0 (length after))) (λ i. flat_map (order_pull after i) (range_with_len 0 (length after))) 0 (length after)
    (λ i. each_flat (lengths before) (lengths after) (order_pull before i) (order_pull after i) 0 (length after) (pair_grows before after order grown i)))).each k lt

-- ---- what stays

pull_stays : (before after : Clocks) → HasGrown before after → (i j : ℕ)
    → PullStays (lengths before) (record { src = i; dst = j; table = order_table before i j }) (record { src = i; dst = j; table = order_table after i j })
pull_stays before after grown i j = record {
  asks = λ x le asked.
      let old : ℕ = count (lengths before) i in
      let new : ℕ = count (lengths after) i in
      let up = lengths_grow before after grown i in
      let at_old = entry_at (order_entry before i j) (old + 2) x (omega (arith, le)) in
      let at_new = entry_at (order_entry after i j) (new + 2) x (omega (arith, le, up)) in
      let kept = past_kept before after grown i j x le in
      let here : min x old ≡ x = omega (arith, le) in
      let there : min x new ≡ x = omega (arith, le, up) in
      omega (arith, at_old, at_new, kept, ap (past_count before i j) here, ap (past_count after i j) there);
}

pair_stays : (before after : Clocks) → HasGrown before after → (i j : ℕ) → AllStay (lengths before) (order_pull before i j) (order_pull after i j)
pair_stays before after grown i j = choose (eqb i j)
  where
    choose : (b : Bool) → AllStay (lengths before)
        (if b then [] else record { src = i; dst = j; table = order_table before i j } ∷ [])
        (if b then [] else record { src = i; dst = j; table = order_table after i j } ∷ [])
    choose true = stay_none (lengths before)
    choose false = stay_one (lengths before) (record { src = i; dst = j; table = order_table before i j }) (record { src = i; dst = j; table = order_table after i j })
        (pull_stays before after grown i j)

pub order_stays : (before after : Clocks) → HasGrown before after → AllStay (lengths before) (pulls_of_order before) (pulls_of_order after)
order_stays before after grown =
    subst (λ (n : ℕ). AllStay (lengths before) (flat_map (λ i. flat_map (order_pull before i) (range_with_len 0 n)) (range_with_len 0 n)) (pulls_of_order after))
    grown.count (stay_flat (lengths before) (λ i. flat_map (order_pull before i) (range_with_len 0 (length after))) (λ i. flat_map (order_pull after i) (range_with_len 0 (length after))) 0 (length after)
    (λ i. stay_flat (lengths before) (order_pull before i) (order_pull after i) 0 (length after) (pair_stays before after grown i)))
