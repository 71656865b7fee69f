-- A word that rises to a bound keeps the words between the starts and the least.
use Rattle.std.proofs.Common.{◌≡◌, ℕ, zero, suc, ◌+◌, ◌*◌, ◌<◌, ◌≤◌, ◌⊎◌, inl, inr, List, [], ◌∷◌, Bool, true, false, length, get_or, set, sum, max, refl, arith, sym, ap, ◌∙◌, subst, get_or-set_same}
use Rattle.std.specs.Prelude.{nat_le, ◌&&◌}
use Rattle.std.proofs.lemmas.List.{length-set, get_or_past}
use Rattle.std.proofs.lemmas.Nat.{same_from_place}
use Rattle.std.proofs.lemmas.Bool.{leb-true, le-leb}
use Rattle.std.proofs.lemmas.Bool.Decides.{leb_tells}
use Rattle.pota_base.specs.declared.shape.EventId.{EventId}
use Rattle.pota_base.specs.Shape.{HasEvent, row_of}
use Rattle.std.proofs.Math.Nat.{mul-le-mul_left}
use Rattle.pull_system.specs.Vector.{IsAtMost}
use Rattle.pull_system.specs.System.{SystemView, IsSystem, IsPull, IsClosedFrom, source_of, target_of, ask, IsBelowLeast}
use Rattle.pull_system.specs.Rows.{RowsView, AreLeastRows, start_of, starts, place_of, first_rows}
use Rattle.pull_system.specs.Growth.{Grows, grown_row, grown_words}
use Rattle.pull_system.proofs.Pulls.{pull-of, ask-closed}
use Rattle.pull_system.proofs.Climbing.{set_case, lt_or_le, tops_closed, starts_below}
use Rattle.pull_system.proofs.Growing.{grown_row_below}
use Rattle.pull_system.proofs.Starts.{starts-place, start_of-vector, start_of-bottom, start_of-event, length-start_of, length-first_rows, first_rows-place, first_rows-within}
use Rattle.raise_machine.specs.Bounds.{IsBound, AreBounds, word_at, raised, are_covered, has_start}

pub bound_max : (system : SystemView) (place m n : ℕ) → IsBound system place m → IsBound system place n → IsBound system place (max m n)
bound_max system place m n bound_m bound_n = record { each = λ row process there same c closed. omega (arith, bound_m.each row process there same c closed, bound_n.each row process there same c closed) }

-- the words with a bound written that is no less than what stood there
pub bounds_set : (system : SystemView) (words : List ℕ) (place number : ℕ) → AreBounds system words → get_or words place 0 ≤ number → IsBound system place number → AreBounds system (set words place number)
bounds_set system words place number bounds more bound = record {
  size = length-set words place number ∙ bounds.size;
  above = record {
    each = λ i. elim (set_case words place number i 0) [ inl e ↦ omega (arith, e, bounds.above.each i) | inr e ↦ omega (arith, e.1, bounds.above.each i, ap (λ j. get_or words j 0) e.0) ];
  };
  below = λ i. elim (set_case words place number i 0) [
    | inl e ↦ let P : ℕ → Type 0 = λ n. IsBound system i n in subst P (sym e) (bounds.below i)
    | inr e ↦ let P : ℕ → Type 0 = λ n. IsBound system i n in let Q : ℕ → Type 0 = λ j. IsBound system j number in subst P (sym e.1) (subst Q (sym e.0) bound)
  ];
}

pub bounds_raised : (system : SystemView) (words : List ℕ) (place number : ℕ) → AreBounds system words → IsBound system place number → AreBounds system (raised words place number)
bounds_raised system words place number bounds bound =
    bounds_set system words place (max (get_or words place 0) number) bounds (omega arith) (bound_max system place (get_or words place 0) number (bounds.below place) bound)

pub raised_within : (words : List ℕ) (place number : ℕ) → IsAtMost words (raised words place number)
raised_within words place number = record {
  each = λ i. elim (set_case words place (max (get_or words place 0) number) i 0) [ inl e ↦ omega (arith, e) | inr e ↦ omega (arith, e.1, ap (λ j. get_or words j 0) e.0) ];
}

-- a word of a row is within each closed vector of that row
pub word_below : (system : SystemView) (words : List ℕ) → AreBounds system words → (row process : ℕ) → process < length system.lens
    → (c : List ℕ) → IsClosedFrom system (start_of system.lens row) c → word_at system.lens words row process ≤ get_or c process 0
word_below system words bounds row process there c closed = (bounds.below (place_of system.lens row process)).each row process there refl c closed

-- a word of a row is at or above the row's start
pub word_above : (system : SystemView) (words : List ℕ) → AreBounds system words → (row process : ℕ) → row ≤ sum system.lens → process < length system.lens
    → get_or (start_of system.lens row) process 0 ≤ word_at system.lens words row process
word_above system words bounds row process row_there there = omega (arith, bounds.above.each (place_of system.lens row process), starts-place system.lens row process row_there there)

-- a word is in the range of a table
pub word_in_range : (system : SystemView) → IsSystem system → (words : List ℕ) → AreBounds system words → (row process : ℕ) → process < length system.lens
    → word_at system.lens words row process ≤ get_or system.lens process 0 + 1
word_in_range system is words bounds row process there =
    let closed = tops_closed system is (start_of system.lens row) (start_of system.lens row) (start_of-vector system.lens row) record { each = λ i. omega arith } in
    omega (arith, word_below system words bounds row process there _ closed, closed.vector.within process)

-- what a pull asks for, where the word of its source has reached x
pub pull_bound : (system : SystemView) → IsSystem system → (words : List ℕ) → AreBounds system words → (row k x : ℕ) → k < length system.pulls
    → x ≤ word_at system.lens words row (source_of system k) → IsBound system (place_of system.lens row (target_of system k)) (ask system k x)
pull_bound system is words bounds row k x there less = record {
  each = λ row_too process process_there same c closed.
      let p : IsPull system.lens _ = pull-of system is k there in
      let e = same_from_place row (target_of system k) row_too process (length system.lens) p.target process_there same in
      let From : ℕ → Type 0 = λ r. IsClosedFrom system (start_of system.lens r) c in
      let closed_here : IsClosedFrom system (start_of system.lens row) c = subst From (sym e.0) closed in
      omega (arith, ap (λ i. get_or c i 0) e.1, ask-closed system is k there _ c closed_here x (omega (arith, less, word_below system words bounds row (source_of system k) p.source c closed_here)));
}

-- what a row lends to one whose words are at or above its start
pub lend_bound : (system : SystemView) (words : List ℕ) → AreBounds system words → (to_row from_row process y : ℕ) → process < length system.lens → y ≤ word_at system.lens words from_row process
    → ((i : ℕ) → i < length system.lens → get_or (start_of system.lens from_row) i 0 ≤ word_at system.lens words to_row i) → IsBound system (place_of system.lens to_row process) y
lend_bound system words bounds to_row from_row process y there less covers = record {
  each = λ row_too process_too process_there same c closed.
      let e = same_from_place to_row process row_too process_too (length system.lens) there process_there same in
      let From : ℕ → Type 0 = λ r. IsClosedFrom system (start_of system.lens r) c in
      let closed_to : IsClosedFrom system (start_of system.lens to_row) c = subst From (sym e.0) closed in
      let above : (i : ℕ) → get_or (start_of system.lens from_row) i 0 ≤ get_or c i 0 =
      λ i. elim (lt_or_le i (length system.lens)) [
        | inl within ↦ omega (arith, covers i within, word_below system words bounds to_row i within c closed_to)
        | inr past ↦ omega (arith, get_or_past (start_of system.lens from_row) i 0 (omega (arith, length-start_of system.lens from_row)))
      ] in
      omega (arith, ap (λ i. get_or c i 0) e.1, less, word_below system words bounds from_row process there c record { vector = closed_to.vector; above = record { each = above }; closed = closed_to.closed });
}

pub both : (a b : Bool) → (a && b) ≡ true → (a ≡ true) × (b ≡ true)
both true b is = (refl, is)
both false b is = absurd (cc)

-- the test of a start, as a fact by process
pub covers-true : (xs words : List ℕ) (place : ℕ) → are_covered xs words place ≡ true → (i : ℕ) → i < length xs → get_or xs i 0 ≤ get_or words (place + i) 0
covers-true [] words place is i there = absurd (omega arith)
covers-true (x ∷ xs) words place is zero there =
    let h = both (nat_le x (get_or words place 0)) (are_covered xs words (place + 1)) is in omega (arith, leb-true x (get_or words place 0) h.0, ap (λ j. get_or words j 0) (let e : place + 0 ≡ place = omega arith in e))
covers-true (x ∷ xs) words place is (suc i) there =
    let h = both (nat_le x (get_or words place 0)) (are_covered xs words (place + 1)) is in
    omega (arith, covers-true xs words (place + 1) h.1 i (omega arith), ap (λ j. get_or words j 0) (let e : place + 1 + i ≡ place + suc i = omega arith in e))

pub has_start-true : (lens words : List ℕ) (row other : ℕ) → has_start lens words row other ≡ true → (i : ℕ) → i < length lens → get_or (start_of lens other) i 0 ≤ word_at lens words row i
has_start-true lens words row other is i there =
    omega (arith, covers-true (start_of lens other) words (place_of lens row 0) is i (omega (arith, length-start_of lens other)), ap (λ j. get_or words j 0) (let e : row * length lens + 0 + i ≡ row * length lens + i = omega arith in e))

-- rows that are each below the least
pub rows_bounds : (system : SystemView) (row_of : ℕ → List ℕ) → ((row : ℕ) → IsBelowLeast system (start_of system.lens row) (row_of row)) → AreBounds system (first_rows row_of (sum system.lens + 1))
rows_bounds system row_of rows = record {
  size = length-first_rows row_of (length system.lens) (sum system.lens + 1) (λ row _. sizes row);
  above = record { each = first_rows-within (start_of system.lens) row_of (length system.lens) (sum system.lens + 1) (length-start_of system.lens) sizes (λ row. (rows row).above.each) };
  below = λ place. record { each = λ row process there same c closed. below place row process there same c closed };
}
  where
    sizes : (row : ℕ) → length (row_of row) ≡ length system.lens
    sizes row = (rows row).vector.size

    below : (place row process : ℕ) → process < length system.lens → place ≡ place_of system.lens row process → (c : List ℕ) → IsClosedFrom system (start_of system.lens row) c
        → get_or (first_rows row_of (sum system.lens + 1)) place 0 ≤ get_or c process 0
    below place row process there same c closed =
        let words : List ℕ = first_rows row_of (sum system.lens + 1) in
        elim (lt_or_le row (sum system.lens + 1)) [
          | inl within ↦
              omega (
                arith,
                ap (λ j. get_or words j 0) same,
                first_rows-place row_of (length system.lens) (sum system.lens + 1) (λ r _. sizes r) row process within there,
                ((rows row).below c closed).each process,
              )
          | inr past ↦
              omega (arith, get_or_past words place 0 (omega (arith, length-first_rows row_of (length system.lens) (sum system.lens + 1) (λ r _. sizes r), mul-le-mul_left (length system.lens) past)))
        ]

-- the starts themselves are such words
pub starts_bounds : (system : SystemView) → AreBounds system (starts system.lens)
starts_bounds system = rows_bounds system (start_of system.lens) (λ row. at_start system row)
  where
    at_start : (system : SystemView) (row : ℕ) → IsBelowLeast system (start_of system.lens row) (start_of system.lens row)
    at_start system row = starts_below system (start_of system.lens row) (start_of-vector system.lens row)

-- and the least rows of an earlier system, grown
pub grown_bounds : (before after : SystemView) → IsSystem before → Grows before after → (old : RowsView) → old.lens ≡ before.lens → AreLeastRows before old.words → AreBounds after (grown_words after.lens old)
grown_bounds before after is grows old same least = rows_bounds after (grown_row after.lens old) (grown_row_below before after is grows old same least)

covers-all : (xs words : List ℕ) (place : ℕ) → ((i : ℕ) → i < length xs → get_or xs i 0 ≤ get_or words (place + i) 0) → are_covered xs words place ≡ true
covers-all [] words place all = refl
covers-all (x ∷ xs) words place all =
    let head : nat_le x (get_or words place 0) ≡ true = le-leb x (get_or words place 0) (omega (arith, all 0 (omega arith), ap (λ j. get_or words j 0) (let e : place + 0 ≡ place = omega arith in e))) in
    let tail : are_covered xs words (place + 1) ≡ true =
    covers-all xs words (place + 1) (λ i there. omega (arith, all (suc i) (omega arith), ap (λ j. get_or words j 0) (let e : place + suc i ≡ place + 1 + i = omega arith in e))) in
    ap (λ b. b && are_covered xs words (place + 1)) head ∙ tail

pub covers_row : (lens words xs : List ℕ) (row : ℕ) → length xs ≡ length lens → ((i : ℕ) → i < length lens → get_or xs i 0 ≤ word_at lens words row i) → are_covered xs words (place_of lens row 0) ≡ true
covers_row lens words xs row size all =
    covers-all xs words (place_of lens row 0) (λ i there. omega (arith, all i (omega arith), ap (λ j. get_or words j 0) (let e : row * length lens + i ≡ row * length lens + 0 + i = omega arith in e)))

pub has_start-bottom : (lens words : List ℕ) (row other : ℕ) → other ≡ 0 → has_start lens words row other ≡ true
has_start-bottom lens words row other bottom =
    let P : ℕ → Type 0 = λ r. has_start lens words row r ≡ true in
    subst P (sym bottom) (covers_row lens words (start_of lens 0) row (length-start_of lens 0) (λ i there. omega (arith, start_of-bottom lens i)))

bool_case : (b : Bool) → (b ≡ true) ⊎ (b ≡ false)
bool_case true = inl refl
bool_case false = inr refl

-- a row has the start of an event's row exactly where its word at the event's process has the event
pub has_start-event : (lens words : List ℕ) (row other : ℕ) (event : EventId) → HasEvent lens event → row_of lens event ≡ other
    → has_start lens words row other ≡ nat_le event.position (word_at lens words row event.process)
has_start-event lens words row other event is same =
    let start : start_of lens other ≡ set (start_of lens 0) event.process event.position = ap (λ r. start_of lens r) (sym same) ∙ start_of-event lens event.process event.position is.process is.first is.last in
    let at_event : get_or (start_of lens other) event.process 0 ≡ event.position =
    ap (λ v. get_or v event.process 0) start ∙ get_or-set_same (start_of lens 0) event.process event.position 0 (omega (arith, length-start_of lens 0, is.process)) in
    elim (leb_tells event.position (word_at lens words row event.process)) [
      | inl h ↦ covers_row lens words (start_of lens other) row (length-start_of lens other) (λ i there. elim (set_case (start_of lens 0) event.process event.position i 0) [
        | inl e ↦ omega (arith, ap (λ v. get_or v i 0) start, e, start_of-bottom lens i)
        | inr e ↦ omega (arith, ap (λ v. get_or v i 0) start, e.1, h.1, ap (λ j. word_at lens words row j) e.0)
      ]) ∙ sym h.0
      | inr h ↦ elim (bool_case (has_start lens words row other)) [
        | inl all ↦ absurd (omega (arith, at_event, h.1, has_start-true lens words row other all event.process (omega (arith, is.process))))
        | inr none ↦ none ∙ sym h.0
      ]
    ]
