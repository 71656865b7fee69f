-- Where values reach a bound.
use Rattle.std.proofs.Common.{◌≡◌, ℕ, ◌+◌, ◌-◌, ◌<◌, ◌≤◌, min, Bool, ℤ, ◌+ℤ◌, ◌≤ℤ◌, ◌<ℤ◌, int_le, List, [], ◌∷◌, ◌++◌, length, map, ap, sym, ◌∙◌, arith}
use Rattle.std.proofs.lemmas.Int.{ints}
use Rattle.std.specs.List.{range_with_len}
use Rattle.std.proofs.lemmas.List.FromFn.{map-range_with_len_more}
use Rattle.pull_system.proofs.PullLists.{first_within}
use Rattle.pull_system.proofs.FirstNumbers.{first_is, first_none, first_before}
use Rattle.counter_preds.specs.Counters.{AreRising, value_at, first_reaching, lead_at, first_positions}
use Rattle.counter_preds.proofs.Tests.{le_holds, lt_fails, fails_lt}

abbrev pub reached : List ℤ → ℤ → ℤ → ℕ → Bool
reached follows extra bound y = int_le bound (value_at follows y +ℤ extra)

-- this is the first position that has reached the bound
pub first_reached : (follows : List ℤ) (extra bound : ℤ) (r : ℕ) → r < length follows → ((y : ℕ) → y < r → (value_at follows y +ℤ extra) <ℤ bound) → bound ≤ℤ (value_at follows r +ℤ extra)
    → r ≡ first_reaching follows extra bound
first_reached follows extra bound r there before at =
    sym (first_is (reached follows extra bound) (length follows) r there (le_holds bound _ at) (λ y lt. lt_fails bound _ (before y lt)))

-- none has
pub none_reached : (follows : List ℤ) (extra bound : ℤ) → ((y : ℕ) → y < length follows → (value_at follows y +ℤ extra) <ℤ bound)
    → length follows ≡ first_reaching follows extra bound
none_reached follows extra bound before =
    sym (first_none (reached follows extra bound) (length follows) (λ y lt. lt_fails bound _ (before y lt)))

-- ---- one entry after the other

abbrev pub entry : List ℤ → ℤ → List ℤ → ℤ → ℕ → ℕ
entry leads more follows extra x = first_reaching follows extra (lead_at leads x +ℤ more)

-- the first i entries are told, the last of them is this place, and nothing before it is reached by what is still to come
pub record PlacedSoFar (leads : List ℤ) (more : ℤ) (follows : List ℤ) (extra : ℤ) (i place : ℕ) (table : List ℕ) : Type 0 where
  pub told : table ≡ map (entry leads more follows extra) (range_with_len 0 i)
  pub within : place ≤ length follows
  pub last : 0 < i → place ≡ entry leads more follows extra (i - 1)
  pub none : (x y : ℕ) → i ≤ x → x < length leads → y < place → (value_at follows y +ℤ extra) <ℤ (value_at leads x +ℤ more)

pub placed_more : (leads : List ℤ) (more : ℤ) (follows : List ℤ) (extra : ℤ) (i place : ℕ) (table : List ℕ) → AreRising leads → i < length leads → PlacedSoFar leads more follows extra i place table
    → (next : ℕ) → next ≡ first_reaching follows extra (value_at leads i +ℤ more) → PlacedSoFar leads more follows extra (i + 1) next (table ++ next ∷ [])
placed_more leads more follows extra i place table rising there h next is =
    let here : min i (length leads - 1) ≡ i = omega arith in
    let lead : lead_at leads i ≡ value_at leads i = ap (λ (x : ℕ). value_at leads x) here in
    let same : next ≡ entry leads more follows extra i = is ∙ ap (λ (l : ℤ). first_reaching follows extra (l +ℤ more)) (sym lead) in
    let before : i + 1 - 1 ≡ i = omega arith in
    let bound = value_at leads i +ℤ more in
    record {
      told = ap (λ (l : List ℕ). l ++ next ∷ []) h.told ∙ ap (λ (n : ℕ). map (entry leads more follows extra) (range_with_len 0 i) ++ n ∷ []) same
          ∙ sym (map-range_with_len_more (entry leads more follows extra) 0 i i (omega arith));
      within = omega (arith, is, first_within (reached follows extra bound) (length follows));
      last = λ _. same ∙ ap (entry leads more follows extra) (sym before);
      none = λ x y from end lt.
          let low : (value_at follows y +ℤ extra) <ℤ (value_at leads i +ℤ more) = fails_lt _ _ (first_before (reached follows extra bound) (length follows) y (omega (arith, is))) in
          omega (arith, ints, low, rising.rises i x (omega arith) end);
    }

-- all entries are told, and the last one again
pub placed_all : (leads : List ℤ) (more : ℤ) (follows : List ℤ) (extra : ℤ) (i place : ℕ) (table : List ℕ) → AreRising leads → i ≡ length leads → PlacedSoFar leads more follows extra i place table
    → table ++ place ∷ [] ≡ first_positions leads more follows extra
placed_all leads more follows extra i place table rising end h =
    let here : min (i - 1) (length leads - 1) ≡ min i (length leads - 1) = omega arith in
    let same : place ≡ entry leads more follows extra i = h.last (omega (arith, rising.some)) ∙ ap (λ (x : ℕ). first_reaching follows extra (value_at leads x +ℤ more)) here in
    ap (λ (l : List ℕ). l ++ place ∷ []) h.told ∙ ap (λ (n : ℕ). map (entry leads more follows extra) (range_with_len 0 i) ++ n ∷ []) same
    ∙ sym (map-range_with_len_more (entry leads more follows extra) 0 i i (omega arith))
    ∙ ap (λ (n : ℕ). map (entry leads more follows extra) (range_with_len 0 (n + 1))) end
