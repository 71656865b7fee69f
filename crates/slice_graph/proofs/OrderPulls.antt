-- The pulls of an order: they are pulls of its shape, and hold exactly at consistent cuts.
use Rattle.std.proofs.Common.{◌≡◌, ℕ, zero, suc, ◌+◌, ◌-◌, ◌*◌, ◌<◌, ◌≤◌, ◌↔◌, min, eqb, List, [], ◌∷◌, ◌++◌, length, get_or, map, flat_map, All, refl, sym, ap, subst, arith, inl, inr}
use Rattle.std.specs.List.{range_with_len}
use Rattle.std.proofs.lemmas.Bool.{cases_lt, cases_eq, cond_both, cond-true, cond-false, eq-eqb, ne_eqb}
use Rattle.std.proofs.lemmas.List.{get_or_past}
use Rattle.std.proofs.lemmas.List.Elements.{All-nil, All-cons, All-head, All-from_get_or}
use Rattle.std.proofs.lemmas.List.FromFn.{length-map-range_with_len, get_or-map-range_with_len}
use Rattle.run_model.specs.Cut.{Cut, Clocks, count, IsWithin, lengths}
use Rattle.run_model.specs.Consistent.{IsOrder, IsConsistent, IsEvent, clock}
use Rattle.run_model.proofs.Counts.{count_past, length-lengths}
use Rattle.run_model.proofs.Orders.{past_rises}
use Rattle.run_model.proofs.EdgeLemmas.{all_left}
use Rattle.pull_system.specs.declared.pull.Pull.{Pull}
use Rattle.pull_system.specs.System.{SystemView, IsPull, IsClosed, RisesWithin, no_pull}
use Rattle.pull_system.specs.Pulls.{HoldsAt, ClosedUnder}
use Rattle.slice_graph.specs.Fitting.{HasOrder}
use Rattle.slice_graph.specs.PullLists.{past_count, order_entry, order_table, order_pull}
use Rattle.slice_graph.specs.PullLists.{pulls_of_order}
use Rattle.slice_graph.proofs.Pairs.{all_pairs, all_pairs_at, length_flat, all_but_one}

-- an entry within a table
pub entry_at : (f : ℕ → ℕ) (n x : ℕ) → x < n → get_or (map f (range_with_len 0 n)) x 0 ≡ f x
entry_at f n x lt = get_or-map-range_with_len f 0 n x x 0 lt (omega arith)

pub entry_past : (f : ℕ → ℕ) (n x : ℕ) → n ≤ x → get_or (map f (range_with_len 0 n)) x 0 ≡ 0
entry_past f n x le = get_or_past (map f (range_with_len 0 n)) x 0 (omega (arith, length-map-range_with_len f 0 n))

-- a table that rises and stays within
pub table_rises : (f : ℕ → ℕ) (n most : ℕ) → ((x y : ℕ) → x ≤ y → y < n → f x ≤ f y) → ((x : ℕ) → x < n → f x ≤ most) → RisesWithin (map f (range_with_len 0 n)) most
table_rises f n most rises within = record {
  rises = λ x y up lt.
      let less : y < n = omega (arith, lt, length-map-range_with_len f 0 n) in
      omega (arith, entry_at f n x (omega (arith, up, less)), entry_at f n y less, rises x y up less);
  within = λ x. elim (cases_lt x n) [
    | inl lt ↦ omega (arith, entry_at f n x lt, within x lt)
    | inr ge ↦ omega (arith, entry_past f n x ge)
  ];
}

-- ---- entries

pub past_is : (o : Clocks) (i j x : ℕ) → 0 < x → past_count o i j x ≡ count (clock o i x) j
past_is o i j zero pos = absurd (omega arith)
past_is o i j (suc x) pos = refl

past_none : (o : Clocks) (i j x : ℕ) → x ≡ 0 → past_count o i j x ≡ 0
past_none o i j zero is = refl
past_none o i j (suc x) is = absurd (omega arith)

pub counts_rise : (o : Clocks) → IsOrder o → (i j x y : ℕ) → x ≤ y → y ≤ count (lengths o) i → past_count o i j x ≤ past_count o i j y
counts_rise o order i j x y up there = elim (cases_lt 0 x) [
  | inr none ↦ omega (arith, past_none o i j x (omega arith))
  | inl pos ↦ omega (arith, past_is o i j x pos, past_is o i j y (omega arith), past_rises o order i x y (omega arith, there) pos up j)
]

pub counts_within : (o : Clocks) → IsOrder o → (i j x : ℕ) → x ≤ count (lengths o) i → past_count o i j x ≤ count (lengths o) j
counts_within o order i j x there = elim (cases_lt 0 x) [
  | inr none ↦ omega (arith, past_none o i j x (omega arith))
  | inl pos ↦ omega (arith, past_is o i j x pos, order.named i x (pos, there) j)
]

entry_within : (o : Clocks) (i j x : ℕ) → x ≤ count (lengths o) i → order_entry o i j x ≡ past_count o i j x
entry_within o i j x there = ap (past_count o i j) (omega arith)

-- ---- pulls of the shape

pull_fits : (o : Clocks) → IsOrder o → (i j : ℕ) → i < length o → j < length o → IsPull (lengths o) (record { src = i; dst = j; table = order_table o i j })
pull_fits o order i j lt less = record {
  source = omega (arith, length-lengths o);
  target = omega (arith, length-lengths o);
  size = length-map-range_with_len (order_entry o i j) 0 (count (lengths o) i + 2);
  table = table_rises (order_entry o i j) (count (lengths o) i + 2) (count (lengths o) j + 1)
      (λ x y up _. counts_rise o order i j (min x (count (lengths o) i)) (min y (count (lengths o) i)) (omega (arith, up)) (omega arith))
      (λ x _. omega (arith, counts_within o order i j (min x (count (lengths o) i)) (omega arith)));
}

pub order_pulls_fit : (o : Clocks) → IsOrder o → All (IsPull (lengths o)) (pulls_of_order o)
order_pulls_fit o order = all_pairs (IsPull (lengths o)) (order_pull o) (length o) (λ i j lt less.
    cond_both (eqb i j) [] (record { src = i; dst = j; table = order_table o i j } ∷ []) (All (IsPull (lengths o)))
    (λ _. All-nil (IsPull (lengths o)))
    (λ _. All-cons (IsPull (lengths o)) (record { src = i; dst = j; table = order_table o i j }) [] (pull_fits o order i j lt less) (All-nil (IsPull (lengths o)))))

-- ---- how many

pub order_pulls_count : (o : Clocks) → length (pulls_of_order o) ≡ length o * (length o - 1)
order_pulls_count o = length_flat (λ i. flat_map (order_pull o i) (range_with_len 0 (length o))) (length o - 1) 0 (length o) (λ i lt.
    let pulls : ℕ → List Pull = order_pull o i in
    omega (
      arith,
      all_but_one (order_pull o i) i
          (ap length (cond-true (eqb i i) [] (record { src = i; dst = i; table = order_table o i i } ∷ []) (eq-eqb i i refl)))
          (λ k ne. ap length (cond-false (eqb i k) [] (record { src = i; dst = k; table = order_table o i k } ∷ []) (ne_eqb i k (λ e. ne (sym e)))))
          0 (length o) (omega arith) (omega (arith, lt)),
    ))

-- ---- closed cuts

-- the pull between two processes holds exactly where the last event's past is within the cut there
holds_past : (o : Clocks) (c : Cut) (i j : ℕ) → count c i ≤ count (lengths o) i
    → HoldsAt c (record { src = i; dst = j; table = order_table o i j }) ↔ (past_count o i j (count c i) ≤ count c j)
holds_past o c i j there =
    let at = entry_at (order_entry o i j) (count (lengths o) i + 2) (count c i) (omega arith) in
    let is = entry_within o i j (count c i) there in
    (λ h. omega (arith, h, at, is), λ h. omega (arith, h, at, is))

closed_consistent : (o : Clocks) → IsOrder o → (c : Cut) → length c ≡ length o → IsWithin c (lengths o) → ClosedUnder (pulls_of_order o) c → IsConsistent o c
closed_consistent o order c size within closed = record {
  shaped = size;
  within = within;
  pasts = λ i pos j.
      let ev : IsEvent (lengths o) i (count c i) = (pos, within i) in
      elim (cases_eq i j) [
        | inl same ↦ subst (λ (k : ℕ). count (clock o i (count c i)) k ≤ count c k) same (omega (arith, order.own i (count c i) ev))
        | inr ne ↦ elim (cases_lt j (length o)) [
          | inr past ↦ omega (arith, count_past (clock o i (count c i)) j (omega (arith, order.shaped i (count c i) ev)))
          | inl less ↦
              let there : i < length o = elim (cases_lt i (length c)) [ inl l ↦ omega (arith, l, size) | inr g ↦ absurd (omega (arith, count_past c i g, pos)) ] in
              let pull : Pull = record { src = i; dst = j; table = order_table o i j } in
              let one : All (HoldsAt c) (pull ∷ []) =
              subst (All (HoldsAt c)) (cond-false (eqb i j) [] (pull ∷ []) (ne_eqb i j ne)) (all_pairs_at (HoldsAt c) (order_pull o) (length o) i j there less closed) in
              omega (arith, past_is o i j (count c i) pos, (holds_past o c i j (within i)).0 (All-head (HoldsAt c) pull [] one))
        ]
      ];
}

consistent_closed : (o : Clocks) (c : Cut) → IsConsistent o c → ClosedUnder (pulls_of_order o) c
consistent_closed o c h = all_pairs (HoldsAt c) (order_pull o) (length o) (λ i j lt less.
    cond_both (eqb i j) [] (record { src = i; dst = j; table = order_table o i j } ∷ []) (All (HoldsAt c))
    (λ _. All-nil (HoldsAt c))
    (λ _. All-cons (HoldsAt c) (record { src = i; dst = j; table = order_table o i j }) [] ((holds_past o c i j (h.within i)).1 (within i j)) (All-nil (HoldsAt c))))
  where
    within : (i j : ℕ) → past_count o i j (count c i) ≤ count c j
    within i j = elim (cases_lt 0 (count c i)) [
      | inr none ↦ omega (arith, past_none o i j (count c i) (omega (arith, none)))
      | inl pos ↦ omega (arith, past_is o i j (count c i) pos, h.pasts i pos j)
    ]

pub order_closed : (o : Clocks) → IsOrder o → (c : Cut) → length c ≡ length o → IsWithin c (lengths o) → ClosedUnder (pulls_of_order o) c ↔ IsConsistent o c
order_closed o order c size within = (closed_consistent o order c size within, consistent_closed o c)

-- ---- systems with the order's pulls

closed_all : (system : SystemView) (c : Cut) → IsClosed system c → ClosedUnder system.pulls c
closed_all system c closed = All-from_get_or (HoldsAt c) system.pulls no_pull (λ k lt. closed.each k lt)

pub has_order : (o : Clocks) → IsOrder o → (system : SystemView) (rest : List Pull) → system.pulls ≡ pulls_of_order o ++ rest → HasOrder o system
has_order o order system rest is c size within closed =
    closed_consistent o order c size within (all_left (HoldsAt c) (pulls_of_order o) rest (subst (All (HoldsAt c)) is (closed_all system c closed)))
