-- The pulls of an order that has grown are those of before with longer tables.
use Rattle.std.proofs.Common.{◌≡◌, ℕ, zero, suc, ◌+◌, ◌-◌, ◌*◌, ◌/◌, ◌<◌, ◌≤◌, min, eqb, List, [], ◌∷◌, ◌++◌, length, get_or, map, take, flat_map, refl, sym, ap, ◌∙◌, subst, arith, inl, inr}
use Rattle.std.specs.List.{range_with_len}
use Rattle.std.specs.Prelude.{Bool, true, false, if◌then◌else◌}
use Rattle.std.proofs.Math.Nat.{mul-div_cancel, mul-le-mul_left}
use Rattle.std.proofs.lemmas.Bool.{cases_lt}
use Rattle.std.proofs.lemmas.List.{map-append, get_or_append_left, get_or-append-add}
use Rattle.std.proofs.lemmas.List.FromFn.{take-map-range_with_len}
use Rattle.run_model.specs.Cut.{Clocks, count, lengths}
use Rattle.run_model.proofs.Counts.{length-lengths}
use Rattle.causal_order.specs.Growth.{HasGrown}
use Rattle.pull_system.specs.declared.pull.Pull.{Pull}
use Rattle.pull_system.specs.System.{SystemView}
use Rattle.pull_fans.specs.Fans.{column}
use Rattle.pull_fans.specs.Growing.{grown_pull, grown_pulls}
use Rattle.slice_graph.specs.PullLists.{past_count, order_entry, order_table, order_pull}
use Rattle.slice_graph.specs.PullLists.{pulls_of_order}
use Rattle.slice_graph.specs.Growing.{IsEarlierSystem}
use Rattle.slice_graph.specs.inside.Growing.{AreRowsBehind, AreAllBehind}
use Rattle.slice_graph.proofs.OrderGrowing.{lengths_grow, past_kept}

-- two functions that agree on a range
map_same : (f g : ℕ → ℕ) (a n : ℕ) → ((k : ℕ) → a ≤ k → k < a + n → f k ≡ g k) → map f (range_with_len a n) ≡ map g (range_with_len a n)
map_same f g a zero same = refl
map_same f g a (suc n) same =
    ap (λ (x : ℕ). x ∷ map f (range_with_len (a + 1) n)) (same a (omega arith) (omega arith))
    ∙ ap (λ (xs : List ℕ). g a ∷ xs) (map_same f g (a + 1) n (λ k from below. same k (omega (arith, from)) (omega (arith, below))))

-- one function from another place on
map_from : (f g : ℕ → ℕ) (a b n : ℕ) → ((k : ℕ) → k < n → f (a + k) ≡ g (b + k)) → map f (range_with_len a n) ≡ map g (range_with_len b n)
map_from f g a b zero same = refl
map_from f g a b (suc n) same =
    ap (λ (x : ℕ). x ∷ map f (range_with_len (a + 1) n)) (ap f (omega arith) ∙ same 0 (omega arith) ∙ ap g (omega arith))
    ∙ ap (λ (xs : List ℕ). g b ∷ xs) (map_from f g (a + 1) (b + 1) n (λ k below. ap f (omega arith) ∙ same (k + 1) (omega (arith, below)) ∙ ap g (omega arith)))

-- a range in two pieces
map_pieces : (f : ℕ → ℕ) (a n m : ℕ) → map f (range_with_len a (n + m)) ≡ map f (range_with_len a n) ++ map f (range_with_len (a + n) m)
map_pieces f a zero m = ap (λ (k : ℕ). map f (range_with_len a k)) (let e : 0 + m ≡ m = omega arith in e) ∙ ap (λ (b : ℕ). map f (range_with_len b m)) (omega arith)
map_pieces f a (suc n) m =
    ap (λ (k : ℕ). map f (range_with_len a k)) (let e : suc n + m ≡ suc (n + m) = omega arith in e)
    ∙ ap (λ (xs : List ℕ). f a ∷ xs) (map_pieces f (a + 1) n m ∙ ap (λ (b : ℕ). map f (range_with_len (a + 1) n) ++ map f (range_with_len b m)) (omega arith))

entry_kept : (before after : Clocks) → HasGrown before after → (i j x : ℕ) → x ≤ count (lengths before) i → order_entry before i j x ≡ order_entry after i j x
entry_kept before after grown i j x there =
    ap (past_count before i j) (let e : min x (count (lengths before) i) ≡ x = omega (arith, there) in e)
    ∙ past_kept before after grown i j x there
    ∙ sym (ap (past_count after i j) (let e : min x (count (lengths after) i) ≡ x = omega (arith, there, lengths_grow before after grown i) in e))

table_grown : (before after : Clocks) → HasGrown before after → (i j : ℕ) (rows : List ℕ) → j < length after → AreRowsBehind after i (count (lengths before) i) rows
    → take (count (lengths before) i + 1) (order_table before i j) ++ column (length after) (length rows / length after) rows j ≡ order_table after i j
table_grown before after grown i j rows j_there behind =
    let some : 0 < length after = omega (arith, j_there) in
    let counted : length rows / length after ≡ count (lengths after) i - count (lengths before) i + 1 =
    ap (λ (n : ℕ). n / length after) behind.size ∙ mul-div_cancel (count (lengths after) i - count (lengths before) i + 1) some in
    let old : ℕ = count (lengths before) i in
    let new : ℕ = count (lengths after) i in
    let up : old ≤ new = lengths_grow before after grown i in
    let front : take (old + 1) (order_table before i j) ≡ map (order_entry after i j) (range_with_len 0 (old + 1)) =
    take-map-range_with_len (order_entry before i j) 0 (old + 2) (old + 1) (omega arith)
    ∙ map_same (order_entry before i j) (order_entry after i j) 0 (old + 1) (λ k from below. entry_kept before after grown i j k (omega (arith, below)))
    in
    let back : column (length after) (new - old + 1) rows j ≡ map (order_entry after i j) (range_with_len (old + 1) (new - old + 1)) =
    map_from (λ x. get_or rows (x * length after + j) 0) (order_entry after i j) 0 (old + 1) (new - old + 1) (λ k below. ap (λ (n : ℕ). get_or rows (n * length after + j) 0) (let e : 0 + k ≡ k = omega arith in e) ∙ behind.each k j below j_there)
    in
    ap (λ (n : ℕ). take (old + 1) (order_table before i j) ++ column (length after) n rows j) counted
    ∙ ap (λ (xs : List ℕ). xs ++ column (length after) (new - old + 1) rows j) front
    ∙ ap (λ (xs : List ℕ). map (order_entry after i j) (range_with_len 0 (old + 1)) ++ xs) back
    ∙ ap (λ (b : ℕ). map (order_entry after i j) (range_with_len 0 (old + 1)) ++ map (order_entry after i j) (range_with_len b (new - old + 1))) (let e : old + 1 ≡ 0 + (old + 1) = omega arith in e)
    ∙ sym (map_pieces (order_entry after i j) 0 (old + 1) (new - old + 1))
    ∙ ap (λ (n : ℕ). map (order_entry after i j) (range_with_len 0 n)) (omega (arith, up))

-- a list of pulls made number by number, each of them grown
map_flat : (f : Pull → Pull) (g h : ℕ → List Pull) (a n : ℕ) → ((k : ℕ) → a ≤ k → k < a + n → map f (g k) ≡ h k) → map f (flat_map g (range_with_len a n)) ≡ flat_map h (range_with_len a n)
map_flat f g h a zero same = refl
map_flat f g h a (suc n) same =
    map-append f (g a) (flat_map g (range_with_len (a + 1) n))
    ∙ ap (λ (ps : List Pull). ps ++ map f (flat_map g (range_with_len (a + 1) n))) (same a (omega arith) (omega arith))
    ∙ ap (λ (ps : List Pull). h a ++ ps) (map_flat f g h (a + 1) n (λ k from below. same k (omega (arith, from)) (omega (arith, below))))

pair_grown : (before after : Clocks) → HasGrown before after → (more : List (List ℕ)) → AreAllBehind after (lengths before) more → (i j : ℕ) → i < length after → j < length after
    → map (grown_pull (lengths before) more) (order_pull before i j) ≡ order_pull after i j
pair_grown before after grown more behind i j i_there j_there = choose (eqb i j)
  where
    choose : (b : Bool) → map (grown_pull (lengths before) more) (if b then [] else record { src = i; dst = j; table = order_table before i j } ∷ [])
        ≡ (if b then [] else record { src = i; dst = j; table = order_table after i j } ∷ [])
    choose true = refl
    choose false =
        ap (λ (t : List ℕ). record { src = i; dst = j; table = t } ∷ [])
        (ap (λ (n : ℕ). take (count (lengths before) i + 1) (order_table before i j) ++ column n (length (get_or more i []) / n) (get_or more i []) j) (length-lengths before ∙ sym grown.count)
        ∙ table_grown before after grown i j (get_or more i []) j_there (behind.each i i_there))

-- the pulls of the order of before, grown by such rows, are those of the order
pub order_grown : (before after : Clocks) → HasGrown before after → (more : List (List ℕ)) → AreAllBehind after (lengths before) more
    → grown_pulls (lengths before) more (pulls_of_order before) ≡ pulls_of_order after
order_grown before after grown more behind =
    let f : Pull → Pull = grown_pull (lengths before) more in
    ap (λ (n : ℕ). map f (flat_map (λ i. flat_map (order_pull before i) (range_with_len 0 n)) (range_with_len 0 n))) (sym grown.count)
    ∙ map_flat f (λ i. flat_map (order_pull before i) (range_with_len 0 (length after))) (λ i. flat_map (order_pull after i) (range_with_len 0 (length after))) 0 (length after)
    (λ i _ i_there. map_flat f (order_pull before i) (order_pull after i) 0 (length after) (λ j _ j_there. pair_grown before after grown more behind i j (omega (arith, i_there)) (omega (arith, j_there))))

-- one row more behind rows of one size
pub rows_more : (f : ℕ → ℕ → ℕ) (procs count : ℕ) (rows row : List ℕ) → length rows ≡ count * procs → length row ≡ procs
    → ((y j : ℕ) → y < count → j < procs → get_or rows (y * procs + j) 0 ≡ f y j) → ((j : ℕ) → j < procs → get_or row j 0 ≡ f count j)
    → (y j : ℕ) → y < count + 1 → j < procs → get_or (rows ++ row) (y * procs + j) 0 ≡ f y j
rows_more f procs count rows row size width each last y j below there = elim (cases_lt y count) [
  | inl lt ↦
      let room : procs * (y + 1) ≤ procs * count = mul-le-mul_left procs (let h : y + 1 ≤ count = omega (arith, lt) in h) in
      get_or_append_left rows row 0 (y * procs + j) (omega (arith, room, there, size)) ∙ each y j lt there
  | inr ge ↦
      let same : y ≡ count = omega (arith, below, ge) in
      ap (λ (n : ℕ). get_or (rows ++ row) n 0) (ap (λ (n : ℕ). n * procs + j) same ∙ ap (λ (n : ℕ). n + j) (sym size))
      ∙ get_or-append-add rows row j 0 ∙ last j there ∙ ap (λ (n : ℕ). f n j) (sym same)
]

-- the pulls of an earlier system, grown by such rows, are those of the order
pub earlier_grown : (o : Clocks) (system : SystemView) (earlier : IsEarlierSystem o system) (firsts : List ℕ) (more rows : List (List ℕ)) → firsts ≡ system.lens → rows ≡ more → AreAllBehind o firsts more
    → grown_pulls system.lens rows system.pulls ≡ pulls_of_order o
earlier_grown o system earlier firsts more rows same same_rows behind =
    let lens : firsts ≡ lengths earlier.before = same ∙ ap (λ (s : SystemView). s.lens) earlier.is in
    ap (λ (s : SystemView). grown_pulls s.lens rows s.pulls) earlier.is
    ∙ ap (λ (ks : List (List ℕ)). grown_pulls (lengths earlier.before) ks (pulls_of_order earlier.before)) same_rows
    ∙ order_grown earlier.before o earlier.grown more (subst (λ (fs : List ℕ). AreAllBehind o fs more) lens behind)

-- an earlier system has as many processes
pub earlier_count : (o : Clocks) (system : SystemView) → IsEarlierSystem o system → length system.lens ≡ length o
earlier_count o system earlier = ap (λ (s : SystemView). length s.lens) earlier.is ∙ length-lengths earlier.before ∙ sym earlier.grown.count
