-- Where counts reach a bound.
use Rattle.std.proofs.Common.{◌≡◌, ℕ, zero, suc, ◌+◌, ◌-◌, ◌<◌, ◌≤◌, min, Bool, true, false, List, [], ◌∷◌, ◌++◌, length, map, get_or, inl, inr, ap, sym, ◌∙◌, arith}
use Rattle.std.specs.Prelude.{nat_le}
use Rattle.std.specs.List.{range_with_len}
use Rattle.std.proofs.lemmas.Bool.{le-leb, lt-leb, leb-true, leb-false}
use Rattle.std.proofs.lemmas.List.FromFn.{map-range_with_len_more}
use Rattle.pull_system.specs.Pulls.{first_below}
use Rattle.channel_preds.specs.Channels.{first_reaching, lead_at, first_positions}
use Rattle.channel_preds.specs.inside.Channels.{AreCounts}
use Rattle.pull_system.proofs.PullLists.{first_within}
use Rattle.pull_system.proofs.FirstNumbers.{first_is, first_none, first_before}

abbrev pub reached : List ℕ → ℕ → ℕ → ℕ → Bool
reached follows extra bound y = nat_le bound (get_or follows y 0 + extra)

-- this is the first position that has reached the bound
pub first_reached : (follows : List ℕ) (extra bound r : ℕ) → r < length follows → ((y : ℕ) → y < r → get_or follows y 0 + extra < bound) → bound ≤ get_or follows r 0 + extra
    → r ≡ first_reaching follows extra bound
first_reached follows extra bound r there before at =
    sym (first_is (reached follows extra bound) (length follows) r there (le-leb bound _ at) (λ y lt. lt-leb bound _ (before y lt)))

-- none has
pub none_reached : (follows : List ℕ) (extra bound : ℕ) → ((y : ℕ) → y < length follows → get_or follows y 0 + extra < bound)
    → length follows ≡ first_reaching follows extra bound
none_reached follows extra bound before =
    sym (first_none (reached follows extra bound) (length follows) (λ y lt. lt-leb bound _ (before y lt)))

-- ---- one entry after the other

abbrev pub entry : List ℕ → ℕ → List ℕ → ℕ → ℕ → ℕ
entry leads more follows extra x = first_reaching follows extra (lead_at leads x + more)

-- the first i entries are told, the last of them is this place, and nothing before it is reached by what is still to come
pub record PlacedSoFar (leads : List ℕ) (more : ℕ) (follows : List ℕ) (extra i place : ℕ) (table : List ℕ) : Type 0 where
  pub told : table ≡ map (entry leads more follows extra) (range_with_len 0 i)
  pub within : place ≤ length follows
  pub last : 0 < i → place ≡ entry leads more follows extra (i - 1)
  pub none : (x y : ℕ) → i ≤ x → x < length leads → y < place → get_or follows y 0 + extra < get_or leads x 0 + more

pub placed_more : (leads : List ℕ) (more : ℕ) (follows : List ℕ) (extra i place : ℕ) (table : List ℕ) → AreCounts leads → i < length leads → PlacedSoFar leads more follows extra i place table
    → (next : ℕ) → next ≡ first_reaching follows extra (get_or leads i 0 + more) → PlacedSoFar leads more follows extra (i + 1) next (table ++ next ∷ [])
placed_more leads more follows extra i place table counts there h next is =
    let here : min i (length leads - 1) ≡ i = omega arith in
    let lead : lead_at leads i ≡ get_or leads i 0 = ap (λ (x : ℕ). get_or leads x 0) here in
    let same : next ≡ entry leads more follows extra i = is ∙ ap (λ (l : ℕ). first_reaching follows extra (l + more)) (sym lead) in
    let before : i + 1 - 1 ≡ i = omega arith in
    let bound = get_or leads i 0 + more in
    record {
      told = ap (λ (l : List ℕ). l ++ next ∷ []) h.told ∙ ap (λ (n : ℕ). map (entry leads more follows extra) (range_with_len 0 i) ++ n ∷ []) same
          ∙ sym (map-range_with_len_more (entry leads more follows extra) 0 i i (omega arith));
      within = omega (arith, is, first_within (reached follows extra bound) (length follows));
      last = λ _. same ∙ ap (entry leads more follows extra) (sym before);
      none = λ x y from end lt.
          let low : get_or follows y 0 + extra < get_or leads i 0 + more = leb-false _ _ (first_before (reached follows extra bound) (length follows) y (omega (arith, is))) in
          omega (arith, low, counts.rises i x (omega arith) end);
    }

-- all entries are told, and the last one again
pub placed_all : (leads : List ℕ) (more : ℕ) (follows : List ℕ) (extra i place : ℕ) (table : List ℕ) → AreCounts leads → i ≡ length leads → PlacedSoFar leads more follows extra i place table
    → table ++ place ∷ [] ≡ first_positions leads more follows extra
placed_all leads more follows extra i place table counts end h =
    let here : min (i - 1) (length leads - 1) ≡ min i (length leads - 1) = omega arith in
    let same : place ≡ entry leads more follows extra i = h.last (omega (arith, counts.some)) ∙ ap (λ (x : ℕ). first_reaching follows extra (get_or leads x 0 + more)) here in
    ap (λ (l : List ℕ). l ++ place ∷ []) h.told ∙ ap (λ (n : ℕ). map (entry leads more follows extra) (range_with_len 0 i) ++ n ∷ []) same
    ∙ sym (map-range_with_len_more (entry leads more follows extra) 0 i i (omega arith))
    ∙ ap (λ (n : ℕ). map (entry leads more follows extra) (range_with_len 0 (n + 1))) end
