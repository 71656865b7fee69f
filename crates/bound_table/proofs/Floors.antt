-- A vector that follows a row of the floor, while words of the row are read and raised.
use Rattle.std.proofs.Common.{◌≡◌, ℕ, ◌+◌, ◌*◌, ◌<◌, ◌≤◌, ◌⊎◌, inl, inr, List, length, get_or, set, sum, refl, arith, sym, ap, ◌∙◌, subst, get_or-set_same}
use Rattle.std.proofs.lemmas.List.{length-set, get_or_past, ext_get_or}
use Rattle.std.proofs.lemmas.Nat.{same_from_place}
use Rattle.std.proofs.Math.Nat.{mul-le-mul_left}
use Rattle.pull_system.specs.Vector.{IsAtMost}
use Rattle.pull_system.specs.System.{SystemView, IsSystem, IsBelowLeast}
use Rattle.pull_system.specs.Rows.{start_of, place_of, row_at}
use Rattle.pull_system.proofs.Climbing.{set_case, lt_or_le}
use Rattle.pull_system.proofs.Sums.{sum-within}
use Rattle.pull_system.proofs.Starts.{length-start_of, get_or-row_at, length-row_at}
use Rattle.raise_machine.specs.Bounds.{AreBounds, word_at}
use Rattle.raise_machine.proofs.Raising.{word_in_range, word_below, word_above}
use Rattle.bound_table.specs.Kept.{KeepsOthers, FollowsFirst, Follows}

pub keeps_set : (lens floor : List ℕ) (row process m : ℕ) → process < length lens → KeepsOthers lens row floor (set floor (place_of lens row process) m)
keeps_set lens floor row process m there = record {
  each = λ other p apart p_there. elim (set_case floor (place_of lens row process) m (place_of lens other p) 0) [
    | inl e ↦ e
    | inr e ↦ absurd (apart (same_from_place other p row process (length lens) p_there there e.0).0)
  ];
}

pub within_set : (floor : List ℕ) (place m : ℕ) → get_or floor place 0 ≤ m → IsAtMost floor (set floor place m)
within_set floor place m more = record { each = λ j. elim (set_case floor place m j 0) [ inl e ↦ omega (arith, e) | inr e ↦ omega (arith, e.1, ap (λ k. get_or floor k 0) e.0) ] }

keeps_trans : (lens : List ℕ) (row : ℕ) (a b c : List ℕ) → KeepsOthers lens row a b → KeepsOthers lens row b c → KeepsOthers lens row a c
keeps_trans lens row a b c first second = record { each = λ other p apart there. second.each other p apart there ∙ first.each other p apart there }

pub within_trans : (a b c : List ℕ) → IsAtMost a b → IsAtMost b c → IsAtMost a c
within_trans a b c first second = record { each = λ i. omega (arith, first.each i, second.each i) }

pub follows_none : (system : SystemView) (row : ℕ) (floor v : List ℕ) → length v ≡ length system.lens → AreBounds system floor → FollowsFirst system row 0 floor floor v
follows_none system row floor v size bounds = record {
  size = size;
  each = λ p there. absurd (omega arith);
  others = record { each = λ other p apart there. refl };
  rises = record { each = λ i. omega arith };
  bounds = bounds;
}

-- the place of a word is among the words
pub place_there : (lens : List ℕ) (row process : ℕ) → row ≤ sum lens → process < length lens → place_of lens row process < (sum lens + 1) * length lens
place_there lens row process row_there there = omega (arith, mul-le-mul_left (length lens) (let h : row + 1 ≤ sum lens + 1 = omega arith in h))

-- both sets at one process of the row
pub both_set : (system : SystemView) (row process m : ℕ) (floor v : List ℕ) → row ≤ sum system.lens → process < length system.lens → AreBounds system floor → length v ≡ length system.lens
    → get_or (set v process m) process 0 ≡ word_at system.lens (set floor (place_of system.lens row process) m) row process
both_set system row process m floor v row_there there bounds size =
    get_or-set_same v process m 0 (omega (arith, size)) ∙ sym (get_or-set_same floor (place_of system.lens row process) m 0 (omega (arith, bounds.size, place_there system.lens row process row_there there)))

set_each : (system : SystemView) (row process m p : ℕ) (floor v : List ℕ) → row ≤ sum system.lens → process < length system.lens → p < length system.lens → AreBounds system floor → length v ≡ length system.lens
    → ((p ≡ process) ⊎ (get_or v p 0 ≡ word_at system.lens floor row p)) → get_or (set v process m) p 0 ≡ word_at system.lens (set floor (place_of system.lens row process) m) row p
set_each system row process m p floor v row_there there p_there bounds size (inl same) =
    let P : ℕ → Type 0 = λ i. get_or (set v process m) i 0 ≡ word_at system.lens (set floor (place_of system.lens row process) m) row i in
    subst P (sym same) (both_set system row process m floor v row_there there bounds size)
set_each system row process m p floor v row_there there p_there bounds size (inr before) =
    let P : ℕ → Type 0 = λ i. get_or (set v process m) i 0 ≡ word_at system.lens (set floor (place_of system.lens row process) m) row i in
    elim (set_case v process m p 0) [
      | inr e ↦ subst P (sym e.0) (both_set system row process m floor v row_there there bounds size)
      | inl e ↦
          elim (set_case floor (place_of system.lens row process) m (place_of system.lens row p) 0) [
            | inl f ↦ e ∙ before ∙ sym f
            | inr f ↦ subst P (sym (same_from_place row p row process (length system.lens) p_there there f.0).1) (both_set system row process m floor v row_there there bounds size)
          ]
    ]

-- one word of the row is read or raised, and the vector with it
pub follows_set : (system : SystemView) (row count count_now process m : ℕ) (old floor floor_now v v_now : List ℕ) → row ≤ sum system.lens → FollowsFirst system row count old floor v → process < length system.lens
    → AreBounds system floor → floor_now ≡ set floor (place_of system.lens row process) m → v_now ≡ set v process m → word_at system.lens floor row process ≤ m → AreBounds system floor_now
    → ((p : ℕ) → p < count_now → (p ≡ process) ⊎ (p < count)) → count_now ≤ length system.lens → FollowsFirst system row count_now old floor_now v_now
follows_set system row count count_now process m old floor floor_now v v_now row_there follows there bounds_before same_floor same_v more bounds cover few = record {
  size = ap (λ x. length x) same_v ∙ length-set v process m ∙ follows.size;
  each = λ p below. ap (λ x. get_or x p 0) same_v ∙ set_each system row process m p floor v row_there there (omega (arith, below)) bounds_before follows.size (known p (cover p below)) ∙ sym (ap (λ x. word_at system.lens x row p) same_floor);
  others = keeps_trans system.lens row old floor floor_now follows.others (let P : List ℕ → Type 0 = KeepsOthers system.lens row floor in subst P (sym same_floor) (keeps_set system.lens floor row process m there));
  rises = within_trans old floor floor_now follows.rises (let P : List ℕ → Type 0 = IsAtMost floor in subst P (sym same_floor) (within_set floor _ m more));
  bounds = bounds;
}
  where
    known : (p : ℕ) → ((p ≡ process) ⊎ (p < count)) → (p ≡ process) ⊎ (get_or v p 0 ≡ word_at system.lens floor row p)
    known p (inl same) = inl same
    known p (inr before) = inr (follows.each p before)

pub follows_trans : (system : SystemView) (row : ℕ) (a b c v w : List ℕ) → Follows system row a b v → Follows system row b c w → Follows system row a c w
follows_trans system row a b c v w first second = record {
  size = second.size;
  each = second.each;
  others = keeps_trans system.lens row a b c first.others second.others;
  rises = within_trans a b c first.rises second.rises;
  bounds = second.bounds;
}

pub follows_again : (system : SystemView) (row : ℕ) (a b v : List ℕ) → Follows system row a b v → Follows system row b b v
follows_again system row a b v follows = record {
  size = follows.size;
  each = follows.each;
  others = record { each = λ other p apart there. refl };
  rises = record { each = λ i. omega arith };
  bounds = follows.bounds;
}

-- the words of a row follow it
pub row_follows : (system : SystemView) (row : ℕ) (floor v : List ℕ) → row ≤ sum system.lens → AreBounds system floor → v ≡ row_at system.lens floor row → Follows system row floor floor v
row_follows system row floor v row_there bounds same = record {
  size = ap (λ x. length x) same ∙ length-row_at system.lens floor row row_there bounds.size;
  each = λ p there. ap (λ x. get_or x p 0) same ∙ get_or-row_at system.lens floor row p there;
  others = record { each = λ other p apart there. refl };
  rises = record { each = λ i. omega arith };
  bounds = bounds;
}

-- a vector that follows a row has its words
pub follows_row : (system : SystemView) (row : ℕ) (old floor v : List ℕ) → row ≤ sum system.lens → Follows system row old floor v → v ≡ row_at system.lens floor row
follows_row system row old floor v row_there follows =
    let size : length (row_at system.lens floor row) ≡ length system.lens = length-row_at system.lens floor row row_there follows.bounds.size in
    ext_get_or 0 v (row_at system.lens floor row) (omega (arith, follows.size, size)) (λ i below.
    let there : i < length system.lens = omega (arith, follows.size) in
    follows.each i there ∙ sym (get_or-row_at system.lens floor row i there))

-- a vector that follows a row is at or above the row's start, and within each closed vector of the row
pub follows_below : (system : SystemView) → IsSystem system → (row : ℕ) (a b v : List ℕ) → row ≤ sum system.lens → Follows system row a b v → IsBelowLeast system (start_of system.lens row) v
follows_below system is row a b v row_there follows = record {
  vector = record { size = follows.size; within = λ i. elim (lt_or_le i (length system.lens)) [ inl there ↦ omega (arith, follows.each i there, word_in_range system is b follows.bounds row i there) | inr past ↦ omega (arith, v_past i past) ] };
  above = record { each = λ i. elim (lt_or_le i (length system.lens)) [ inl there ↦ omega (arith, follows.each i there, word_above system b follows.bounds row i row_there there) | inr past ↦ omega (arith, start_past i past) ] };
  below = λ c closed. record { each = λ i. elim (lt_or_le i (length system.lens)) [ inl there ↦ omega (arith, follows.each i there, word_below system b follows.bounds row i there c closed) | inr past ↦ omega (arith, v_past i past) ] };
}
  where
    v_past : (i : ℕ) → length system.lens ≤ i → get_or v i 0 ≡ 0
    v_past i past = get_or_past v i 0 (omega (arith, follows.size))

    start_past : (i : ℕ) → length system.lens ≤ i → get_or (start_of system.lens row) i 0 ≡ 0
    start_past i past = get_or_past (start_of system.lens row) i 0 (omega (arith, length-start_of system.lens row))

-- a vector that follows a row only rises
pub follows_rises : (system : SystemView) (row : ℕ) (a b c v w : List ℕ) → Follows system row a b v → Follows system row b c w → IsAtMost v w
follows_rises system row a b c v w first second = record {
  each = λ i. elim (lt_or_le i (length system.lens)) [
    | inl there ↦ omega (arith, first.each i there, second.each i there, second.rises.each (place_of system.lens row i))
    | inr past ↦ omega (arith, get_or_past v i 0 (omega (arith, first.size)))
  ];
}

-- the row before the look is within what was read
pub row_sum : (system : SystemView) (row : ℕ) (old b v : List ℕ) → row ≤ sum system.lens → AreBounds system old → Follows system row old b v → sum (row_at system.lens old row) ≤ sum v
row_sum system row old b v row_there bounds follows =
    sum-within (row_at system.lens old row) v (omega (arith, follows.size, length-row_at system.lens old row row_there bounds.size)) (λ i. elim (lt_or_le i (length system.lens)) [
      | inl there ↦ omega (arith, get_or-row_at system.lens old row i there, follows.each i there, follows.rises.each (place_of system.lens row i))
      | inr past ↦ omega (arith, get_or_past (row_at system.lens old row) i 0 (omega (arith, length-row_at system.lens old row row_there bounds.size)))
    ])

pub within_one : (i n : ℕ) → i < n + 1 → (i ≡ n) ⊎ (i < n)
within_one i n h = grind arith
