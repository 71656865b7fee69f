-- The pulls from one process side by side: which of the pulls of an order and of a slice they are.
use Rattle.std.proofs.Common.{◌≡◌, ℕ, zero, suc, ◌+◌, ◌-◌, ◌<◌, ◌≤◌, ◌^◌, eqb, ltb, List, [], ◌∷◌, ◌++◌, length, get_or, map, flat_map, sum, refl, sym, ap, ◌∙◌, arith, inl, inr, append-nil}
use Rattle.std.specs.Prelude.{if◌then◌else◌, ◌==◌}
use Rattle.std.specs.List.{range_with_len}
use Rattle.std.proofs.lemmas.Bool.{cases_lt, cases_eq, cond-true, cond-false, eq-eqb, ne_eqb, lt-ltb, le-ltb}
use Rattle.std.proofs.lemmas.List.{get_or_past}
use Rattle.std.proofs.lemmas.List.Sums.{get_or-le-sum_by}
use Rattle.std.proofs.lemmas.List.Concat.{flat_map-append}
use Rattle.std.proofs.lemmas.List.FromFn.{length-map-range_with_len, get_or-map-range_with_len}
use Rattle.pull_system.specs.declared.pull.Pull.{Pull}
use Rattle.pull_fans.specs.Fans.{FanView, pull_of_fan, pulls_of_fan, pulls_of_fans, AreTables}
use Rattle.run_model.specs.Cut.{Clocks, count, lengths}
use Rattle.run_model.specs.Consistent.{IsOrder}
use Rattle.pota_base.specs.Limits.{most_events}
use Rattle.slice_graph.specs.Views.{SliceView, HasAllRows, slice_of, last_row}
use Rattle.slice_graph.specs.Words.{past_ends, row_words}
use Rattle.slice_graph.specs.PullLists.{past_count}
use Rattle.slice_graph.specs.inside.PullLists.{other}
use Rattle.slice_graph.proofs.Words.{filled_most, past_ends_most}
use Rattle.slice_graph.proofs.OrderPulls.{counts_within}
use Rattle.slice_graph.proofs.SlicePulls.{last_is_row}

map_same : {X : Type 0} (f g : ℕ → X) (a n : ℕ) → ((k : ℕ) → k < a + n → f k ≡ g k) → map f (range_with_len a n) ≡ map g (range_with_len a n)
map_same f g a zero h = refl
map_same f g a (suc n) h =
    ap (λ (x : _). x ∷ map f (range_with_len (a + 1) n)) (h a (omega arith)) ∙ ap (λ (xs : List _). g a ∷ xs) (map_same f g (a + 1) n (λ k lt. h k (omega (arith, lt))))

-- the pulls of a fan by its targets and tables
pub fan_pulls : (fan : FanView) (src n count : ℕ) (target : ℕ → ℕ) (entry : ℕ → ℕ → ℕ) → fan.src ≡ src → fan.targets ≡ map target (range_with_len 0 n) → AreTables entry n count fan.tables
    → pulls_of_fan fan ≡ map (λ k. record { src = src; dst = target k; table = map (entry k) (range_with_len 0 count) }) (range_with_len 0 n)
fan_pulls fan src n count target entry source targets tables =
    let size : length fan.targets ≡ n = ap length targets ∙ length-map-range_with_len target 0 n in
    ap (λ (m : ℕ). map (pull_of_fan fan) (range_with_len 0 m)) size ∙ map_same (pull_of_fan fan) _ 0 n (λ k lt.
    let less : k < n = omega (arith, lt) in
    ap (λ (s : ℕ). record { src = s; dst = get_or fan.targets k 0; table = get_or fan.tables k [] }) source
    ∙ ap (λ (d : ℕ). record { src = src; dst = d; table = get_or fan.tables k [] }) (ap (λ (ts : List ℕ). get_or ts k 0) targets ∙ get_or-map-range_with_len target 0 n k k 0 less (omega arith))
    ∙ ap (λ (t : List ℕ). record { src = src; dst = target k; table = t }) (tables.each k less))

pub flat_ones : {X : Type 0} (f : ℕ → X) (a n : ℕ) → flat_map (λ j. f j ∷ []) (range_with_len a n) ≡ map f (range_with_len a n)
flat_ones f a zero = refl
flat_ones f a (suc n) = ap (λ (xs : List _). f a ∷ xs) (flat_ones f (a + 1) n)

-- ---- all processes but one

pub other_before : (process index : ℕ) → index < process → other process index ≡ index
other_before process index lt = cond-true (ltb index process) index (index + 1) (lt-ltb index process lt)

pub other_behind : (process index : ℕ) → process ≤ index → other process index ≡ index + 1
other_behind process index le = cond-false (ltb index process) index (index + 1) (le-ltb index process le)

-- an item for each number but one
abbrev except : {X : Type 0} → ℕ → (ℕ → X) → ℕ → List X
except i f j = if i == j then [] else f j ∷ []

except_here : {X : Type 0} (i : ℕ) (f : ℕ → X) (j : ℕ) → i ≡ j → except i f j ≡ []
except_here i f j same = cond-true (eqb i j) [] (f j ∷ []) (eq-eqb i j same)

except_other : {X : Type 0} (i : ℕ) (f : ℕ → X) (j : ℕ) → (i ≡ j → ⊥) → except i f j ≡ f j ∷ []
except_other i f j ne = cond-false (eqb i j) [] (f j ∷ []) (ne_eqb i j ne)

flat_behind : {X : Type 0} (i : ℕ) (f : ℕ → X) (a n : ℕ) → i < a → flat_map (except i f) (range_with_len a n) ≡ map f (range_with_len a n)
flat_behind i f a zero lt = refl
flat_behind i f a (suc n) lt =
    ap (λ (xs : List _). xs ++ flat_map (except i f) (range_with_len (a + 1) n)) (except_other i f a (λ e. omega (arith, e, lt))) ∙ ap (λ (xs : List _). f a ∷ xs) (flat_behind i f (a + 1) n (omega (arith, lt)))

map_behind : {X : Type 0} (i : ℕ) (f : ℕ → X) (a n : ℕ) → i ≤ a → map f (range_with_len (a + 1) n) ≡ map (λ k. f (other i k)) (range_with_len a n)
map_behind i f a zero le = refl
map_behind i f a (suc n) le =
    ap (λ (x : _). x ∷ map f (range_with_len (a + 1 + 1) n)) (ap f (sym (other_behind i a le))) ∙ ap (λ (xs : List _). f (other i a) ∷ xs) (map_behind i f (a + 1) n (omega (arith, le)))

flat_here : {X : Type 0} (i : ℕ) (f : ℕ → X) (a n : ℕ) → i ≡ a → flat_map (except i f) (range_with_len a (suc n)) ≡ map (λ k. f (other i k)) (range_with_len a n)
flat_here i f a n here =
    ap (λ (xs : List _). xs ++ flat_map (except i f) (range_with_len (a + 1) n)) (except_here i f a here) ∙ flat_behind i f (a + 1) n (omega (arith, here)) ∙ map_behind i f a n (omega (arith, here))

flat_but : {X : Type 0} (i : ℕ) (f : ℕ → X) (a n : ℕ) → a ≤ i → i < a + suc n → flat_map (except i f) (range_with_len a (suc n)) ≡ map (λ k. f (other i k)) (range_with_len a n)
flat_but i f a zero le lt = flat_here i f a zero (omega (arith, lt, le))
flat_but i f a (suc n) le lt = elim (cases_eq i a) [
  | inl here ↦ flat_here i f a (suc n) here
  | inr ne ↦
      let less : a < i = omega (arith, le, ne) in
      ap (λ (xs : List _). xs ++ flat_map (except i f) (range_with_len (a + 1) (suc n))) (except_other i f a ne)
      ∙ ap (λ (x : _). x ∷ flat_map (except i f) (range_with_len (a + 1) (suc n))) (ap f (sym (other_before i a less)))
      ∙ ap (λ (xs : List _). f (other i a) ∷ xs) (flat_but i f (a + 1) n (omega (arith, less)) (omega (arith, lt)))
]

-- an item for each of the other processes
pub flat_others : {X : Type 0} (i : ℕ) (f : ℕ → X) (n : ℕ) → i < n → flat_map (except i f) (range_with_len 0 n) ≡ map (λ k. f (other i k)) (range_with_len 0 (n - 1))
flat_others i f zero lt = absurd (omega (arith, lt))
flat_others i f (suc n) lt =
    let less : suc n - 1 ≡ n = omega arith in
    flat_but i f 0 n (omega arith) (omega (arith, lt)) ∙ ap (λ (m : ℕ). map (λ k. f (other i k)) (range_with_len 0 m)) (sym less)

-- ---- entries of 16 bits

count_few : (lens : List ℕ) → sum lens ≤ most_events → (j : ℕ) → get_or lens j 0 ≤ most_events
count_few lens few j = elim (cases_lt j (length lens)) [
  | inl there ↦ omega (arith, few, get_or-le-sum_by (λ (n : ℕ). n) lens j 0 there)
  | inr past ↦ omega (arith, get_or_past lens j 0 past)
]

-- the row of the pulls to the others
pub order_row_small : (o : Clocks) → IsOrder o → sum (lengths o) ≤ most_events → (i x : ℕ) → x ≤ count (lengths o) i → (row : List ℕ)
    → ((k : ℕ) → k < length row → get_or row k 0 ≡ past_count o i (other i k) x) → (k : ℕ) → get_or row k 0 < 2 ^ 16
order_row_small o order few i x there row is k = elim (cases_lt k (length row)) [
  | inl less ↦ omega (arith, is k less, counts_within o order i (other i k) x there, count_few (lengths o) few (other i k))
  | inr past ↦ omega (arith, get_or_past row k 0 past)
]

pub slice_row_small : (v : SliceView) → HasAllRows v → (i x : ℕ) (row : List ℕ) → row ≡ row_words v i x → (k : ℕ) → get_or row k 0 < 2 ^ 16
slice_row_small v rows i x row is k =
    omega (arith, ap (λ (r : List ℕ). get_or r k 0) is, filled_most v.lens (last_row (slice_of v) i x) (last_is_row v rows i x) k, count_few v.lens rows.cuts.shape.events k)

pub past_row_small : (lens : List ℕ) → sum lens ≤ most_events → (row : List ℕ) → row ≡ past_ends lens → (k : ℕ) → get_or row k 0 < 2 ^ 16
past_row_small lens few row is k = omega (arith, ap (λ (r : List ℕ). get_or r k 0) is, past_ends_most lens k, count_few lens few k)

-- ---- all fans

pub fans_more : (fans now : List FanView) (fan : FanView) → now ≡ fans ++ fan ∷ [] → pulls_of_fans now ≡ pulls_of_fans fans ++ pulls_of_fan fan
fans_more fans now fan more =
    ap pulls_of_fans more ∙ flat_map-append pulls_of_fan fans (fan ∷ []) ∙ ap (λ (ps : List Pull). pulls_of_fans fans ++ ps) (append-nil (pulls_of_fan fan))
