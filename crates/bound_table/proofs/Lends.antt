-- One process more of a row that lends to another: its word is read, and the other's is raised to it.
use Rattle.std.proofs.Common.{◌≡◌, ◌≢◌, ℕ, ◌+◌, ◌*◌, ◌<◌, ◌≤◌, inl, inr, List, true, length, get_or, set, sum, take, refl, arith, sym, ap, ◌∙◌, subst, get_or-set_same}
use Rattle.std.proofs.lemmas.Nat.{same_from_place}
use Rattle.std.proofs.lemmas.List.Sums.{sum_by_more_le}
use Rattle.pull_system.specs.Vector.{IsAtMost}
use Rattle.pull_system.specs.System.{SystemView}
use Rattle.pull_system.specs.Rows.{start_of, place_of}
use Rattle.pull_system.proofs.Climbing.{set_case}
use Rattle.pull_system.proofs.Starts.{length-start_of, start_of-event}
use Rattle.raise_machine.specs.Bounds.{AreBounds, word_at, has_start}
use Rattle.raise_machine.proofs.Raising.{has_start-true, covers_row, word_above}
use Rattle.bound_table.specs.inside.Lending.{MayLend}
use Rattle.bound_table.proofs.Moves.{set_both}
use Rattle.bound_table.proofs.Floors.{within_set, within_trans, place_there, within_one}

-- a floor that rises keeps the event that it has
pub has_start_more : (lens words more : List ℕ) (row other : ℕ) → IsAtMost words more → has_start lens words row other ≡ true → has_start lens more row other ≡ true
has_start_more lens words more row other within start =
    covers_row lens more (start_of lens other) row (length-start_of lens other) (λ i there. omega (arith, has_start-true lens words row other start i there, within.each (place_of lens row i)))

pub may_lend_more : (lens words more : List ℕ) (row other : ℕ) (lent : List ℕ) → IsAtMost words more → MayLend lens words row other lent → MayLend lens more row other lent
may_lend_more lens words more row other lent within may = record {
  there = may.there;
  size = may.size;
  reached = λ i i_there. omega (arith, may.reached i i_there, within.each (place_of lens row i));
  event = has_start_more lens words more other row within may.event;
}

-- a number is put in a place and reached there
pub reached : (words : List ℕ) (place m : ℕ) → place < length words → get_or (set words place m) place 0 ≡ m
reached words place m there = get_or-set_same words place m 0 there

pub set_within : (words now : List ℕ) (place m : ℕ) → now ≡ set words place m → get_or words place 0 ≤ m → IsAtMost words now
set_within words now place m same more = let P : List ℕ → Type 0 = IsAtMost words in subst P (sym same) (within_set words place m more)

-- a word of another row, or of another process, is as it was
apart_set : (lens words : List ℕ) (row process m other p : ℕ) → process < length lens → p < length lens → ((other ≡ row) × (p ≡ process) → ⊥) → word_at lens (set words (place_of lens row process) m) other p ≡ word_at lens words other p
apart_set lens words row process m other p there p_there apart =
    elim (set_case words (place_of lens row process) m (place_of lens other p) 0) [
      | inl e ↦ e
      | inr e ↦ absurd (apart (same_from_place other p row process (length lens) p_there there e.0))
    ]

-- what the two steps at one process know
pub record LendsAt (lens before read lent : List ℕ) (from_row to_row process y z : ℕ) : Type 0 where
  pub from_there : from_row ≤ sum lens
  pub to_there : to_row ≤ sum lens
  pub there : process < length lens
  pub size : length before ≡ (sum lens + 1) * length lens
  pub size_read : length read ≡ (sum lens + 1) * length lens
  pub read_is : read ≡ set before (place_of lens from_row process) y
  pub read_more : word_at lens before from_row process ≤ y
  pub lent_is : lent ≡ set read (place_of lens to_row process) z
  pub lent_more : word_at lens read to_row process ≤ z
  pub reaches : y ≤ z

module _ (lens before read lent : List ℕ) (from_row to_row process y z : ℕ) (at : LendsAt lens before read lent from_row to_row process y z) where
  pub lends_within : IsAtMost before lent
  lends_within = within_trans before read lent (set_within before read _ y at.read_is at.read_more) (set_within read lent _ z at.lent_is at.lent_more)

  pub lends_others : (row p : ℕ) → row ≢ from_row → row ≢ to_row → p < length lens → word_at lens lent row p ≡ word_at lens before row p
  lends_others row p not_from not_to p_there =
      ap (λ words. word_at lens words row p) at.lent_is ∙ apart_set lens read to_row process z row p at.there p_there (λ same. not_to same.0)
      ∙ ap (λ words. word_at lens words row p) at.read_is ∙ apart_set lens before from_row process y row p at.there p_there (λ same. not_from same.0)

  -- the word that was read, after the raise
  read_at : word_at lens read from_row process ≡ y
  read_at = ap (λ words. word_at lens words from_row process) at.read_is ∙ reached before (place_of lens from_row process) y (omega (arith, at.size, place_there lens from_row process at.from_there at.there))

  lent_at : word_at lens lent to_row process ≡ z
  lent_at = ap (λ words. word_at lens words to_row process) at.lent_is ∙ reached read (place_of lens to_row process) z (omega (arith, at.size_read, place_there lens to_row process at.to_there at.there))

  lends_here : word_at lens lent from_row process ≤ word_at lens lent to_row process
  lends_here =
      elim (set_case read (place_of lens to_row process) z (place_of lens from_row process) 0) [
        | inl e ↦ omega (arith, ap (λ words. word_at lens words from_row process) at.lent_is, e, read_at, lent_at, at.reaches)
        | inr e ↦ omega (arith, ap (λ words. word_at lens words from_row process) at.lent_is, e.1, lent_at)
      ]

  pub lends_next : ((p : ℕ) → p < process → word_at lens before from_row p ≤ word_at lens before to_row p) → (p : ℕ) → p < process + 1 → word_at lens lent from_row p ≤ word_at lens lent to_row p
  lends_next so_far p below =
      elim (within_one p process below) [
        | inl same ↦ let P : ℕ → Type 0 = λ i. word_at lens lent from_row i ≤ word_at lens lent to_row i in subst P (sym same) lends_here
        | inr less ↦
            omega (
              arith,
              so_far p less,
              lends_within.each (place_of lens to_row p),
              ap (λ words. word_at lens words from_row p) at.lent_is,
              apart_set lens read to_row process z from_row p at.there (omega (arith, at.there)) (λ same. omega (arith, same.1)),
              ap (λ words. word_at lens words from_row p) at.read_is,
              apart_set lens before from_row process y from_row p at.there (omega (arith, at.there)) (λ same. omega (arith, same.1)),
            )
      ]

-- An event's row has the start of the row before it on its process, so that row may lend to it.
pub has_start_next : (system : SystemView) (words : List ℕ) → AreBounds system words → (process position : ℕ) → process < length system.lens → 1 ≤ position → position + 1 ≤ get_or system.lens process 0
    → has_start system.lens words (sum (take process system.lens) + (position + 1)) (sum (take process system.lens) + position) ≡ true
has_start_next system words bounds process position there first last =
    covers_row lens words (start_of lens before) next (length-start_of lens before) (λ i i_there. omega (arith, starts i, word_above system words bounds next i row_there i_there))
  where
    lens : List ℕ
    lens = system.lens

    before : ℕ
    before = sum (take process lens) + position

    next : ℕ
    next = sum (take process lens) + (position + 1)

    row_there : next ≤ sum lens
    row_there = omega (arith, sum_by_more_le (λ (n : ℕ). n) lens process 0 there)

    at : (x : ℕ) → 1 ≤ x → x ≤ get_or lens process 0 → start_of lens (sum (take process lens) + x) ≡ set (start_of lens 0) process x
    at x x_first x_last = start_of-event lens process x (omega arith) x_first x_last

    starts : (i : ℕ) → get_or (start_of lens before) i 0 ≤ get_or (start_of lens next) i 0
    starts i =
        omega (
          arith,
          ap (λ v. get_or v i 0) (at position first (omega arith)),
          ap (λ v. get_or v i 0) (at (position + 1) (omega arith) last),
          set_both (start_of lens 0) (start_of lens 0) process position (position + 1) record { each = λ j. omega arith } (omega arith) refl i,
        )
