-- Rows that are put behind those of a table: one, some after others, and some that rise.
use Rattle.std.proofs.Common.{◌≡◌, ℕ, zero, suc, ◌+◌, ◌-◌, ◌*◌, ◌<◌, ◌≤◌, inl, inr, List, [], ◌∷◌, ◌++◌, length, get_or, map, replicate, sum, take, drop, slice_range, Option, Some, None, refl, sym, ap, subst, ◌∙◌, arith, append_assoc, append-nil}
use Rattle.std.proofs.lemmas.Bool.{cases_lt}
use Rattle.std.proofs.Math.Nat.{mul-le-mul_right}
use Rattle.std.proofs.lemmas.List.Sums.{sum_by-cons, sum_by-take-le}
use Rattle.std.proofs.lemmas.List.{length-append, length-map, length-replicate, get_or-map, get_or_append_left, get_or-append-add, get_or_past, get_or-take, get_or-drop, length-take-le, length-drop}
use Rattle.run_model.specs.Cut.{Cut, count, IsWithin, max_cut}
use Rattle.run_model.proofs.Counts.{count-max, length-max, same_counts, within_refl, within_trans}
use Rattle.causal_order.specs.Blocks.{rows_of}
use Rattle.causal_order.proofs.Rows.{length-rows_of, row_at as block_row_at}
use Rattle.pull_system.specs.Rows.{RowsView, row_at}
use Rattle.slice_graph.specs.Views.{SliceView, IsCut, joined_onto, joined_rows, no_row}
use Rattle.slice_graph.specs.Fitting.{IsCutOfVector}
use Rattle.slice_graph.specs.inside.Pushing.{PushesRows, so_far, AreRising, some_row}
use Rattle.slice_graph.proofs.Building.{BuiltBy}
use Rattle.slice_graph.proofs.Kept.{KeptRow}
use Rattle.slice_graph.proofs.Pieces.{length-slice_range, get_or-slice_range}

-- ---- one after the other

joined_both : (t : Cut) (ks ls : List (Option Cut)) → joined_onto t (ks ++ ls) ≡ joined_onto (joined_onto t ks) ls
joined_both t [] ls = refl
joined_both t (None ∷ ks) ls = joined_both t ks ls
joined_both t (Some c ∷ ks) ls = joined_both (max_cut c t) ks ls

pub pushes_none : (rows : RowsView) (first : ℕ) (v : SliceView) (t : Cut) → PushesRows rows first 0 (so_far v t) (so_far v t)
pushes_none rows first v t = record {
  kept = [];
  size = refl;
  each = λ a lt. absurd (omega arith);
  table = ap (λ (rs : List (Option Cut)). record v { rows = rs }) (sym (append-nil v.rows));
  top = refl;
}

pub pushes_both : (rows : RowsView) (first n m : ℕ) (v w x : SliceView) (t u s : Cut) → PushesRows rows first n (so_far v t) (so_far w u) → PushesRows rows (first + n) m (so_far w u) (so_far x s) → PushesRows rows first (n + m) (so_far v t) (so_far x s)
pushes_both rows first n m v w x t u s a b = record {
  kept = a.kept ++ b.kept;
  size = length-append a.kept b.kept ∙ omega (arith, a.size, b.size);
  each = λ i lt. elim (cases_lt i n) [
    | inl less ↦ subst (IsCutOfVector rows.lens (row_at rows.lens rows.words (first + i))) (sym (get_or_append_left a.kept b.kept no_row i (omega (arith, less, a.size)))) (a.each i less)
    | inr past ↦
        let k : ℕ = i - n in
        let at : i ≡ length a.kept + k = omega (arith, past, a.size) in
        let row : (first + n) + k ≡ first + i = omega (arith, past) in
        subst (λ (r : ℕ). IsCutOfVector rows.lens (row_at rows.lens rows.words r) (get_or (a.kept ++ b.kept) i no_row)) row
        (subst (IsCutOfVector rows.lens (row_at rows.lens rows.words ((first + n) + k)))
        (sym (ap (λ (j : ℕ). get_or (a.kept ++ b.kept) j no_row) at ∙ get_or-append-add a.kept b.kept k no_row)) (b.each k (omega (arith, lt, past))))
  ];
  table = b.table ∙ ap (λ (z : SliceView). record z { rows = z.rows ++ b.kept }) a.table ∙ ap (λ (rs : List (Option Cut)). record v { rows = rs }) (append_assoc v.rows a.kept b.kept);
  top = b.top ∙ ap (λ (z : Cut). joined_onto z b.kept) a.top ∙ sym (joined_both t a.kept b.kept);
}

pub pushes_one : (rows : RowsView) (first : ℕ) (v w : SliceView) (t u : Cut) (k : Option Cut) → IsCutOfVector rows.lens (row_at rows.lens rows.words first) k → w ≡ record v { rows = v.rows ++ k ∷ [] } → u ≡ joined_onto t (k ∷ [])
    → PushesRows rows first 1 (so_far v t) (so_far w u)
pushes_one rows first v w t u k is more top = record {
  kept = k ∷ [];
  size = refl;
  each = λ a lt.
      let none : a ≡ 0 = omega (arith, lt) in
      let same : first ≡ first + a = omega (arith, none) in
      subst (λ (j : ℕ). IsCutOfVector rows.lens (row_at rows.lens rows.words (first + a)) (get_or (k ∷ []) j no_row)) (sym none)
      (subst (λ (r : ℕ). IsCutOfVector rows.lens (row_at rows.lens rows.words r) k) same is);
  table = more;
  top = top;
}

-- ---- rows without a cut

none_there : (n a : ℕ) → get_or (replicate n no_row) a no_row ≡ no_row
none_there zero a = refl
none_there (suc n) zero = refl
none_there (suc n) (suc a) = none_there n a

none_joined : (t : Cut) (n : ℕ) → joined_onto t (replicate n no_row) ≡ t
none_joined t zero = refl
none_joined t (suc n) = none_joined t n

pub pushes_nones : (rows : RowsView) (first n : ℕ) (v w : SliceView) (t : Cut) → ((a : ℕ) → a < n → IsWithin (row_at rows.lens rows.words (first + a)) rows.lens → ⊥)
    → w ≡ record v { rows = v.rows ++ replicate n no_row } → PushesRows rows first n (so_far v t) (so_far w t)
pushes_nones rows first n v w t past more = record {
  kept = replicate n no_row;
  size = length-replicate n no_row;
  each = λ a lt. subst (IsCutOfVector rows.lens (row_at rows.lens rows.words (first + a))) (sym (none_there n a)) (past a lt);
  table = more;
  top = sym (none_joined t n);
}

replicate_more : (n : ℕ) → replicate n no_row ++ no_row ∷ [] ≡ replicate (n + 1) no_row
replicate_more zero = refl
replicate_more (suc n) =
    ap (λ (ks : List (Option Cut)). no_row ∷ ks) (replicate_more n) ∙ ap (λ (m : ℕ). replicate m no_row) (let same : suc (n + 1) ≡ suc n + 1 = omega arith in same)

-- one row without a cut more
pub none_more : (v w x : SliceView) (n : ℕ) → w ≡ record v { rows = v.rows ++ replicate n no_row } → x ≡ record w { rows = w.rows ++ no_row ∷ [] } → x ≡ record v { rows = v.rows ++ replicate (n + 1) no_row }
none_more v w x n is more =
    more
    ∙ ap (λ (z : SliceView). record z { rows = z.rows ++ no_row ∷ [] }) is
    ∙ ap (λ (rs : List (Option Cut)). record v { rows = rs }) (append_assoc v.rows (replicate n no_row) (no_row ∷ []) ∙ ap (λ (ks : List (Option Cut)). v.rows ++ ks) (replicate_more n))

pub none_more_yet : (v : SliceView) → v ≡ record v { rows = v.rows ++ replicate 0 no_row }
none_more_yet v = ap (λ (rs : List (Option Cut)). record v { rows = rs }) (sym (append-nil v.rows))

-- so many rows without a cut more, behind so many
pub nones_more : (v w x : SliceView) (n m k : ℕ) → w ≡ record v { rows = v.rows ++ replicate n no_row } → n + m ≡ k → x ≡ record w { rows = w.rows ++ replicate m no_row } → x ≡ record v { rows = v.rows ++ replicate k no_row }
nones_more v w x n m k is all more =
    more
    ∙ ap (λ (z : SliceView). record z { rows = z.rows ++ replicate m no_row }) is
    ∙ ap (λ (rs : List (Option Cut)). record v { rows = rs }) (append_assoc v.rows (replicate n no_row) (replicate m no_row) ∙ ap (λ (ks : List (Option Cut)). v.rows ++ ks) (both n ∙ ap (λ (j : ℕ). replicate j no_row) all))
  where
    both : (n : ℕ) → replicate n no_row ++ replicate m no_row ≡ replicate (n + m) no_row
    both zero = let none : m ≡ 0 + m = omega arith in ap (λ (j : ℕ). replicate j no_row) none
    both (suc n) = let next : suc (n + m) ≡ suc n + m = omega arith in ap (λ (ks : List (Option Cut)). no_row ∷ ks) (both n) ∙ ap (λ (j : ℕ). replicate j no_row) next

-- rows without a cut have no maximum
pub joined_nones : (lens : List ℕ) (n procs : ℕ) (v : SliceView) → v ≡ record { lens = lens; rows = replicate n no_row } → procs ≡ length lens → replicate procs 0 ≡ joined_rows v
joined_nones lens n procs v is count = ap (λ (k : ℕ). replicate k 0) count ∙ sym (none_joined (replicate (length lens) 0) n) ∙ ap joined_rows (sym is)

-- ---- rows that rise

pub rising_to : (rows : RowsView) (first n a d : ℕ) → AreRising rows first n → a + d < n → IsWithin (row_at rows.lens rows.words (first + a)) (row_at rows.lens rows.words (first + (a + d)))
rising_to rows first n a zero rise lt =
    let same : first + a ≡ first + (a + 0) = omega arith in
    subst (λ (r : ℕ). IsWithin (row_at rows.lens rows.words (first + a)) (row_at rows.lens rows.words r)) same (within_refl (row_at rows.lens rows.words (first + a)))
rising_to rows first n a (suc d) rise lt =
    let next : first + ((a + d) + 1) ≡ first + (a + suc d) = omega arith in
    within_trans (row_at rows.lens rows.words (first + a)) (row_at rows.lens rows.words (first + (a + d))) (row_at rows.lens rows.words (first + (a + suc d)))
    (rising_to rows first n a d rise (omega (arith, lt)))
    (subst (λ (r : ℕ). IsWithin (row_at rows.lens rows.words (first + (a + d))) (row_at rows.lens rows.words r)) next (rise (a + d) (omega (arith, lt))))

pub rising_fewer : (rows : RowsView) (first n k : ℕ) → k ≤ n → AreRising rows first n → AreRising rows first k
rising_fewer rows first n k few rise a lt = rise a (omega (arith, lt, few))

-- where the last of the first k has a cut, all of them have
pub first_within : (rows : RowsView) (first n k : ℕ) → AreRising rows first n → k ≤ n → ((a : ℕ) → a + 1 ≡ k → IsWithin (row_at rows.lens rows.words (first + a)) rows.lens)
    → (a : ℕ) → a < k → IsWithin (row_at rows.lens rows.words (first + a)) rows.lens
first_within rows first n k rise few last a lt =
    let d : ℕ = k - 1 - a in
    let end : a + d + 1 ≡ k = omega (arith, lt) in
    within_trans (row_at rows.lens rows.words (first + a)) (row_at rows.lens rows.words (first + (a + d))) rows.lens
    (rising_to rows first n a d rise (omega (arith, end, few))) (last (a + d) end)

-- where one has none, none behind it has
pub none_behind : (rows : RowsView) (first n k : ℕ) → AreRising rows first n → (k < n → IsWithin (row_at rows.lens rows.words (first + k)) rows.lens → ⊥)
    → (a : ℕ) → a < n - k → IsWithin (row_at rows.lens rows.words (first + k + a)) rows.lens → ⊥
none_behind rows first n k rise past a lt within =
    let same : first + k + a ≡ first + (k + a) = omega arith in
    past (omega (arith, lt)) (within_trans (row_at rows.lens rows.words (first + k)) (row_at rows.lens rows.words (first + (k + a))) rows.lens
    (rising_to rows first n k a rise (omega (arith, lt)))
    (subst (λ (r : ℕ). IsWithin (row_at rows.lens rows.words r) rows.lens) same within))

-- ---- a block of rows

row_size : (lens words : List ℕ) (r : ℕ) → (r + 1) * length lens ≤ length words → length (row_at lens words r) ≡ length lens
row_size lens words r there = length-slice_range words (r * length lens + 0) ((r + 1) * length lens + 0) (omega (arith, there)) ∙ omega arith

row_word : (lens words : List ℕ) (r i : ℕ) → i < length lens → count (row_at lens words r) i ≡ get_or words (r * length lens + i) 0
row_word lens words r i lt =
    get_or-slice_range words (r * length lens + 0) ((r + 1) * length lens + 0) i (omega (arith, lt))
    ∙ ap (λ (n : ℕ). get_or words n 0) (let place : r * length lens + 0 + i ≡ r * length lens + i = omega arith in place)

-- each row of the block is that of the rows
pub block_row : (lens words : List ℕ) (first n a : ℕ) → (first + n) * length lens ≤ length words → a < n
    → get_or (rows_of (length lens) n (slice_range words (first * length lens) ((first + n) * length lens))) a [] ≡ row_at lens words (first + a)
block_row lens words first n a there lt =
    let w : ℕ = length lens in
    let block : List ℕ = slice_range words (first * w) ((first + n) * w) in
    let end : (first + (a + 1)) * w ≤ (first + n) * w = mul_rows first (a + 1) n w (omega (arith, lt)) in
    let here : (first + a + 1) * w ≤ length words = omega (arith, end, there) in
    let size : length block ≡ (first + n) * w - first * w = length-slice_range words (first * w) ((first + n) * w) there in
    let part : length (take w (drop (a * w) block)) ≡ w = length-take-le w (drop (a * w) block) (omega (arith, length-drop (a * w) block, size, end)) in
    block_row_at w n a block lt
    ∙ same_counts (take w (drop (a * w) block)) (row_at lens words (first + a)) (part ∙ sym (row_size lens words (first + a) here)) (λ i. elim (cases_lt i w) [
      | inl less ↦
          get_or-take w (drop (a * w) block) i 0 less ∙ get_or-drop (a * w) block i 0
          ∙ get_or-slice_range words (first * w) ((first + n) * w) (a * w + i) (omega (arith, less, end))
          ∙ ap (λ (k : ℕ). get_or words k 0) (let place : first * w + (a * w + i) ≡ (first + a) * w + i = omega arith in place)
          ∙ sym (row_word lens words (first + a) i less)
      | inr past ↦
          get_or_past (take w (drop (a * w) block)) i 0 (omega (arith, past, part))
          ∙ sym (get_or_past (row_at lens words (first + a)) i 0 (omega (arith, past, row_size lens words (first + a) here)))
    ])
  where
    mul_rows : (f a n w : ℕ) → a ≤ n → (f + a) * w ≤ (f + n) * w
    mul_rows f a n w le = mul-le-mul_right w (let more : f + a ≤ f + n = omega (arith, le) in more)

-- the last of cuts that it holds is their maximum
joined_last : (t m : Cut) (cs : List Cut) → length t ≡ length m → 0 < length cs → ((a : ℕ) → a < length cs → length (get_or cs a []) ≡ length m) → ((a : ℕ) → a < length cs → IsWithin (get_or cs a []) m)
    → ((a : ℕ) → a + 1 ≡ length cs → get_or cs a [] ≡ m) → joined_onto t (map some_row cs) ≡ max_cut m t
joined_last t m [] size some wide within last = absurd (omega (arith, some))
joined_last t m (c ∷ []) size some wide within last = ap (λ (x : Cut). max_cut x t) (last 0 refl)
joined_last t m (c ∷ d ∷ cs) size some wide within last =
    let width : length (max_cut c t) ≡ length m = omega (arith, length-max c t, wide 0 (omega arith), size) in
    joined_last (max_cut c t) m (d ∷ cs) width (omega arith) (λ a lt. wide (suc a) (omega (arith, lt))) (λ a lt. within (suc a) (omega (arith, lt))) (λ a is. last (suc a) (omega (arith, is)))
    ∙ same_counts (max_cut m (max_cut c t)) (max_cut m t) (omega (arith, length-max m (max_cut c t), length-max m t, width, size))
    (λ i. omega (arith, count-max m (max_cut c t) i, count-max c t i, count-max m t i, within 0 (omega arith) i))

-- a block of rows with cuts that rise
pub pushes_block : (rows : RowsView) (first n : ℕ) (v w : SliceView) (t u : Cut) → 0 < n → (first + n) * length rows.lens ≤ length rows.words → AreRising rows first n
    → ((a : ℕ) → a < n → IsWithin (row_at rows.lens rows.words (first + a)) rows.lens)
    → w ≡ record v { rows = v.rows ++ map some_row (rows_of (length rows.lens) n (slice_range rows.words (first * length rows.lens) ((first + n) * length rows.lens))) }
    → length t ≡ length rows.lens → ((a : ℕ) → a + 1 ≡ n → u ≡ max_cut (row_at rows.lens rows.words (first + a)) t) → PushesRows rows first n (so_far v t) (so_far w u)
pushes_block rows first n v w t u some there rise within more size top =
    let width : ℕ = length rows.lens in
    let block : List ℕ = slice_range rows.words (first * width) ((first + n) * width) in
    let cs : List Cut = rows_of width n block in
    let many : length cs ≡ n = length-rows_of width n block in
    let at : (a : ℕ) → a < n → get_or cs a [] ≡ row_at rows.lens rows.words (first + a) = λ a lt. block_row rows.lens rows.words first n a there lt in
    let m : Cut = row_at rows.lens rows.words (first + (n - 1)) in
    let wide : (a : ℕ) → a < n → length (row_at rows.lens rows.words (first + a)) ≡ width = λ a lt. row_size rows.lens rows.words (first + a) (row_there first a n width (length rows.words) lt there) in
    record {
      kept = map some_row cs;
      size = length-map cs some_row ∙ many;
      each = λ a lt. subst (IsCutOfVector rows.lens (row_at rows.lens rows.words (first + a))) (sym (get_or-map some_row cs a [] no_row (omega (arith, lt, many)))) (at a lt, within a lt);
      table = more;
      top = top (n - 1) (omega (arith, some))
          ∙ sym (joined_last t m cs (size ∙ sym (wide (n - 1) (omega (arith, some)))) (omega (arith, some, many))
          (λ a lt. ap length (at a (omega (arith, lt, many))) ∙ wide a (omega (arith, lt, many)) ∙ sym (wide (n - 1) (omega (arith, some))))
          (λ a lt.
          let d : ℕ = n - 1 - a in
          let end : a + d ≡ n - 1 = omega (arith, lt, many) in
          subst (λ (x : Cut). IsWithin x m) (sym (at a (omega (arith, lt, many))))
          (subst (λ (b : ℕ). IsWithin (row_at rows.lens rows.words (first + a)) (row_at rows.lens rows.words (first + b))) end (rising_to rows first n a d rise (omega (arith, end, some)))))
          (λ a is. at a (omega (arith, is, many)) ∙ ap (λ (b : ℕ). row_at rows.lens rows.words (first + b)) (let last : a ≡ n - 1 = omega (arith, is, many) in last)));
    }
  where
    row_there : (f a n w len : ℕ) → a < n → (f + n) * w ≤ len → (f + a + 1) * w ≤ len
    row_there f a n w len lt all = omega (arith, all, mul-le-mul_right w (let more : f + a + 1 ≤ f + n = omega (arith, lt) in more))

-- ---- rows that are compared word by word

pub rising_rows : (rows : RowsView) (first n begin last : ℕ) → begin ≡ first * length rows.lens → last ≡ (first + n - 1) * length rows.lens → 0 < n → (first + n) * length rows.lens ≤ length rows.words
    → ((i : ℕ) → i < length (slice_range rows.words begin last)
    → get_or (slice_range rows.words begin last) i 0 ≤ get_or (slice_range rows.words (begin + length rows.lens) (last + length rows.lens)) i 0)
    → AreRising rows first n
rising_rows rows first n begin last b l some there most a lt i = elim (cases_lt i (length rows.lens)) [
  | inr past ↦ omega (arith, get_or_past (row_at rows.lens rows.words (first + a)) i 0 (omega (arith, past, row_size rows.lens rows.words (first + a) (omega (arith, whole, there)))))
  | inl less ↦
      let k : ℕ = a * w + i in
      let inside : k < last - begin = omega (arith, less, rows_end, b, l, front) in
      let size : length (slice_range rows.words begin last) ≡ last - begin = length-slice_range rows.words begin last (omega (arith, l, there, front, whole)) in
      let one : begin + k ≡ (first + a) * w + i = omega (arith, b, split_a) in
      let two : begin + w + k ≡ (first + (a + 1)) * w + i = omega (arith, b, split_b) in
      omega (
        arith,
        most k (omega (arith, inside, size)),
        get_or-slice_range rows.words begin last k inside,
        get_or-slice_range rows.words (begin + w) (last + w) k (omega (arith, inside)),
        row_word rows.lens rows.words (first + a) i less,
        row_word rows.lens rows.words (first + (a + 1)) i less,
        ap (λ (j : ℕ). get_or rows.words j 0) one,
        ap (λ (j : ℕ). get_or rows.words j 0) two,
      )
]
  where
    w : ℕ
    w = length rows.lens

    split_a : (first + a) * w ≡ first * w + a * w
    split_a = omega arith

    split_b : (first + (a + 1)) * w ≡ first * w + w + a * w
    split_b = omega arith

    front : (first + n - 1) * w + w ≡ (first + n) * w
    front = omega (arith, ap (λ (k : ℕ). k * w) (let e : first + n ≡ (first + n - 1) + 1 = omega (arith, some) in e))

    rows_end : (first + (a + 1)) * w ≤ (first + n - 1) * w
    rows_end = mul-le-mul_right w (let e : first + (a + 1) ≤ first + n - 1 = omega (arith, lt) in e)

    whole : (first + a + 1) * w ≤ (first + n) * w
    whole = mul-le-mul_right w (let e : first + a + 1 ≤ first + n = omega (arith, lt) in e)

-- ---- the first row of a process

pub rows_fit : (lens words : List ℕ) (first n total : ℕ) → length words ≡ (total + 1) * length lens → first + n ≤ total + 1 → (first + n) * length lens ≤ length words
rows_fit lens words first n total size few = omega (arith, size, mul-le-mul_right (length lens) few)

-- ---- the rows of a slice

-- rows that are put behind those that are built
pub built_rows : (rows : RowsView) (first n : ℕ) (v w : SliceView) (t u : Cut) → BuiltBy rows.lens (KeptRow rows.lens rows.words) first v → PushesRows rows first n (so_far v t) (so_far w u) → BuiltBy rows.lens (KeptRow rows.lens rows.words) (first + n) w
built_rows rows first n v w t u h p = subst (BuiltBy rows.lens (KeptRow rows.lens rows.words) (first + n)) (sym p.table) (record {
  shape = h.shape;
  size = length-append v.rows p.kept ∙ omega (arith, h.size, p.size);
  each = λ r lt. elim (cases_lt r first) [
    | inl less ↦ subst (KeptRow rows.lens rows.words r) (sym (get_or_append_left v.rows p.kept no_row r (omega (arith, less, h.size)))) (h.each r less)
    | inr past ↦
        let a : ℕ = r - first in
        let at : r ≡ length v.rows + a = omega (arith, past, h.size) in
        let row : first + a ≡ r = omega (arith, past) in
        subst (KeptRow rows.lens rows.words r) (sym (ap (λ (j : ℕ). get_or (v.rows ++ p.kept) j no_row) at ∙ get_or-append-add v.rows p.kept a no_row))
        (subst (λ (k : ℕ). KeptRow rows.lens rows.words k (get_or p.kept a no_row)) row (p.each a (omega (arith, lt, past))))
  ];
})

-- and their maximum
pub joined_more : (rows : RowsView) (first n : ℕ) (v w : SliceView) (t u : Cut) → t ≡ joined_rows v → PushesRows rows first n (so_far v t) (so_far w u) → u ≡ joined_rows w
joined_more rows first n v w t u is p =
    p.top ∙ ap (λ (z : Cut). joined_onto z p.kept) is ∙ sym (joined_both (replicate (length v.lens) 0) v.rows p.kept) ∙ ap joined_rows (sym p.table)

pub joined_none : (lens : List ℕ) (v : SliceView) (t : Cut) → v ≡ record { lens = lens; rows = [] } → t ≡ replicate (length lens) 0 → t ≡ joined_rows v
joined_none lens v t none is = is ∙ ap joined_rows (sym none)

sum_cons : (x : ℕ) (xs : List ℕ) → sum (x ∷ xs) ≡ x + sum xs
sum_cons x xs = sum_by-cons (λ (n : ℕ). n) x xs

sum_next : (lens : List ℕ) (i : ℕ) → i < length lens → sum (take i lens) + get_or lens i 0 ≡ sum (take (i + 1) lens)
sum_next [] i there = absurd (omega arith)
sum_next (x ∷ lens) zero there = omega (arith, sum_cons x [])
sum_next (x ∷ lens) (suc i) there =
    let one : sum (take (suc i) (x ∷ lens)) ≡ x + sum (take i lens) = sum_cons x (take i lens) in
    let two : sum (take (suc (i + 1)) (x ∷ lens)) ≡ x + sum (take (i + 1) lens) = sum_cons x (take (i + 1) lens) in
    let at : get_or (x ∷ lens) (suc i) 0 ≡ get_or lens i 0 = refl in
    let next : suc i + 1 ≡ suc (i + 1) = omega arith in
    let same : sum (take (suc i + 1) (x ∷ lens)) ≡ sum (take (suc (i + 1)) (x ∷ lens)) = ap (λ (n : ℕ). sum (take n (x ∷ lens))) next in
    omega (arith, one, two, at, same, sum_next lens i (omega (arith, there)))

-- the rows up to those of the next process
pub next_process : (lens : List ℕ) (i : ℕ) → i < length lens → sum (take i lens) + 1 + get_or lens i 0 ≡ sum (take (i + 1) lens) + 1
next_process lens i there = omega (arith, sum_next lens i there)

-- the rows of a process are there
pub rows_of_process : (lens : List ℕ) (i : ℕ) → i < length lens → sum (take i lens) + 1 + get_or lens i 0 ≤ sum lens + 1
rows_of_process lens i there = omega (arith, sum_next lens i there, sum_by-take-le (λ (n : ℕ). n) lens (i + 1))

-- each row of a block of rows with cuts is a cut
pub block_cuts : (rows : RowsView) (first n : ℕ) → (first + n) * length rows.lens ≤ length rows.words → ((a : ℕ) → a < n → IsWithin (row_at rows.lens rows.words (first + a)) rows.lens)
    → (a : ℕ) → a < n → IsCut rows.lens (get_or (rows_of (length rows.lens) n (slice_range rows.words (first * length rows.lens) ((first + n) * length rows.lens))) a [])
block_cuts rows first n there within a lt =
    subst (IsCut rows.lens) (sym (block_row rows.lens rows.words first n a there lt))
    (record { size = row_size rows.lens rows.words (first + a) (omega (arith, there, mul-le-mul_right (length rows.lens) (let more : first + a + 1 ≤ first + n = omega (arith, lt) in more))); within = within a lt })

pub block_size : (words : List ℕ) (first n w : ℕ) → (first + n) * w ≤ length words → length (slice_range words (first * w) ((first + n) * w)) ≡ n * w
block_size words first n w there =
    let width : (first + n) * w - first * w ≡ n * w = omega arith in
    length-slice_range words (first * w) ((first + n) * w) there ∙ width
