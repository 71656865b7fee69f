-- The least rows of a system are below those of one that it grows into, row by row.
use Rattle.std.proofs.Common.{◌≡◌, ℕ, zero, suc, ◌+◌, ◌-◌, ◌<◌, ◌≤◌, ◌⊎◌, inl, inr, min, List, [], ◌∷◌, Bool, Option, Some, None, length, sum, get_or, take, refl, arith, sym, ap, ◌∙◌, subst}
use Rattle.std.specs.Prelude.{nat_le, if◌then◌else◌}
use Rattle.std.proofs.lemmas.Bool.Decides.{leb_tells}
use Rattle.std.proofs.lemmas.List.{get_or_past}
use Rattle.std.proofs.lemmas.List.Sums.{sum_by-cons}
use Rattle.pota_base.specs.Shape.{IsShape}
use Rattle.pull_system.specs.Vector.{IsAtMost, IsVector}
use Rattle.pull_system.specs.System.{SystemView, IsSystem, IsPull, IsClosedFrom, IsLeastFrom, pull_at, source_of, target_of, ask, IsBelowLeast}
use Rattle.pull_system.specs.Rows.{RowsView, AreRows, AreLeastRows, start_of, row_at}
use Rattle.pull_system.specs.Growth.{PullGrows, Grows, old_row_from, old_row, kept_or_start, grown_row, grown_words}
use Rattle.pull_system.proofs.Pulls.{pull-of}
use Rattle.pull_system.proofs.Climbing.{lt_or_le}
use Rattle.pull_system.proofs.Starts.{in_head, in_tail, cons_same, length-start_of, start_of-vector, length-row_at, row_at-first_rows, length-first_rows}

-- the vector, cut off one past the earlier lengths
abbrev pub cut : List ℕ → List ℕ → List ℕ
cut [] c = []
cut (len ∷ lens) [] = 0 ∷ cut lens []
cut (len ∷ lens) (x ∷ c) = min x (len + 1) ∷ cut lens c

length-cut : (lens c : List ℕ) → length (cut lens c) ≡ length lens
length-cut [] c = refl
length-cut (len ∷ lens) [] = ap (λ n. suc n) (length-cut lens [])
length-cut (len ∷ lens) (x ∷ c) = ap (λ n. suc n) (length-cut lens c)

get_or-cut : (lens c : List ℕ) (i : ℕ) → i < length lens → get_or (cut lens c) i 0 ≡ min (get_or c i 0) (get_or lens i 0 + 1)
get_or-cut [] c i there = absurd (omega arith)
get_or-cut (len ∷ lens) [] zero there = omega arith
get_or-cut (len ∷ lens) (x ∷ c) zero there = refl
get_or-cut (len ∷ lens) [] (suc i) there = get_or-cut lens [] i (omega arith)
get_or-cut (len ∷ lens) (x ∷ c) (suc i) there = get_or-cut lens c i (omega arith)

cut_within : (lens c : List ℕ) (i : ℕ) → get_or (cut lens c) i 0 ≤ get_or c i 0
cut_within lens c i = elim (lt_or_le i (length lens)) [ inl there ↦ omega (arith, get_or-cut lens c i there) | inr past ↦ omega (arith, get_or_past (cut lens c) i 0 (omega (arith, length-cut lens c))) ]

cut_below : (lens c : List ℕ) (i : ℕ) → get_or (cut lens c) i 0 ≤ get_or lens i 0 + 1
cut_below lens c i = elim (lt_or_le i (length lens)) [ inl there ↦ omega (arith, get_or-cut lens c i there) | inr past ↦ omega (arith, get_or_past (cut lens c) i 0 (omega (arith, length-cut lens c))) ]

-- a closed vector of the later system, cut off, is closed in the earlier one
pub cut_closed : (before after : SystemView) → IsSystem before → Grows before after → (start v c : List ℕ) → IsVector before.lens v → IsAtMost start v → IsClosedFrom after start c
    → IsClosedFrom before start (cut before.lens c)
cut_closed before after is grows start v c vector start_v closed = record {
  vector = record { size = length-cut before.lens c; within = cut_below before.lens c };
  above = record { each = λ i. above i };
  closed = record { each = λ k there. holds k there };
}
  where
    above : (i : ℕ) → get_or start i 0 ≤ get_or (cut before.lens c) i 0
    above i = elim (lt_or_le i (length before.lens)) [ inl there ↦ omega (arith, get_or-cut before.lens c i there, closed.above.each i, start_v.each i, vector.within i) | inr past ↦ omega (arith, start_v.each i, get_or_past v i 0 (omega (arith, vector.size))) ]

    holds : (k : ℕ) → k < length before.pulls → ask before k (get_or (cut before.lens c) (source_of before k) 0) ≤ get_or (cut before.lens c) (target_of before k) 0
    holds k there =
        let p : IsPull before.lens (pull_at before k) = pull-of before is k there in
        let g : PullGrows before.lens after.lens (pull_at before k) (pull_at after k) = grows.each k (omega (arith, grows.count)) in
        let x : ℕ = get_or c (source_of after k) 0 in
        let read : get_or (cut before.lens c) (source_of before k) 0 ≡ min x (get_or before.lens (source_of after k) 0 + 1) =
        get_or-cut before.lens c (source_of before k) p.source ∙ ap (λ s. min (get_or c s 0) (get_or before.lens s 0 + 1)) g.source in
        omega (
          arith,
          ap (λ n. ask before k n) read,
          g.asks x (closed.vector.within (source_of after k)),
          closed.closed.each k (omega (arith, grows.count)),
          ap (λ t. get_or c t 0) g.target,
          p.table.within (get_or (cut before.lens c) (source_of before k) 0),
          get_or-cut before.lens c (target_of before k) p.target,
        )

-- the earlier least vector from a start is within each later closed vector from there
pub least_below : (before after : SystemView) → IsSystem before → Grows before after → (start v c : List ℕ) → IsLeastFrom before start v → IsClosedFrom after start c → IsAtMost v c
least_below before after is grows start v c least closed =
    let cut_too = cut_closed before after is grows start v c least.closed.vector least.closed.above closed in record { each = λ i. omega (arith, (least.least _ cut_too).each i, cut_within before.lens c i) }

pub least_grows : (before after : SystemView) → IsSystem before → Grows before after → (start v w : List ℕ) → IsLeastFrom before start v → IsLeastFrom after start w → IsAtMost v w
least_grows before after is grows start v w least later = least_below before after is grows start v w least later.closed

-- the bottom's start is the same for equally many processes
start_same : (xs ys : List ℕ) → length xs ≡ length ys → start_of xs 0 ≡ start_of ys 0
start_same [] [] same = refl
start_same [] (y ∷ ys) same = absurd (omega arith)
start_same (x ∷ xs) [] same = absurd (omega arith)
start_same (x ∷ xs) (y ∷ ys) same = in_head x xs 0 (omega arith) ∙ cons_same _ _ _ _ refl (start_same xs ys (omega arith)) ∙ sym (in_head y ys 0 (omega arith))

-- an event's row from before has the start that its row has now
pub record HasStood (before : ℕ) (olds lens : List ℕ) (row kept : ℕ) : Type 0 where
  pub index : ℕ
  pub is : kept ≡ before + index
  pub there : index ≤ sum olds
  pub event : 1 ≤ row → 1 ≤ index
  pub start : start_of olds index ≡ start_of lens row

-- the event is of the first process, and old or new, or it is of a later process
data OldRowCase (before old : ℕ) (olds : List ℕ) (len : ℕ) (lens : List ℕ) (row : ℕ) : Type 0 where
  Here : row ≤ len → row ≤ old → old_row_from before (old ∷ olds) (len ∷ lens) row ≡ Some (before + row) → OldRowCase before old olds len lens row
  New : (row ≤ len) × (old < row) → old_row_from before (old ∷ olds) (len ∷ lens) row ≡ None → OldRowCase before old olds len lens row
  Later : len < row → old_row_from before (old ∷ olds) (len ∷ lens) row ≡ old_row_from (before + old) olds lens (row - len) → OldRowCase before old olds len lens row

old_row_case : (before old : ℕ) (olds : List ℕ) (len : ℕ) (lens : List ℕ) (row : ℕ) → OldRowCase before old olds len lens row
old_row_case before old olds len lens row =
    let inner : Bool → Option ℕ = λ b. if b then Some (before + row) else None in
    let outer : Bool → Option ℕ = λ b. if b then inner (nat_le row old) else old_row_from (before + old) olds lens (row - len) in
    elim (leb_tells row len) [
      | inl h ↦ elim (leb_tells row old) [ inl k ↦ Here h.1 k.1 (ap outer h.0 ∙ ap inner k.0) | inr k ↦ New (h.1, k.1) (ap outer h.0 ∙ ap inner k.0) ]
      | inr h ↦ Later h.1 (ap outer h.0)
    ]

pub stood : (before : ℕ) (olds lens : List ℕ) (row kept : ℕ) → length olds ≡ length lens → old_row_from before olds lens row ≡ Some kept → HasStood before olds lens row kept
stood before [] lens row kept same found = absurd (cc)
stood before (old ∷ olds) [] row kept same found = absurd (omega arith)
stood before (old ∷ olds) (len ∷ lens) row kept same found =
    elim (old_row_case before old olds len lens row) [
      | Here here old_too is ↦ record {
        index = row;
        is = let e : Some kept ≡ Some (before + row) = sym found ∙ is in cc;
        there = omega (arith, sum_by-cons (λ (n : ℕ). n) old olds);
        event = λ first. first;
        start = in_head old olds row old_too ∙ cons_same _ _ _ _ refl (start_same olds lens (omega arith)) ∙ sym (in_head len lens row here);
      }
      | New new is ↦ let e : Some kept ≡ None = sym found ∙ is in absurd (cc)
      | Later past is ↦
          let rest : HasStood (before + old) olds lens (row - len) kept = stood (before + old) olds lens (row - len) kept (omega arith) (sym is ∙ found) in record {
            index = old + rest.index;
            is = omega (arith, rest.is);
            there = omega (arith, rest.there, sum_by-cons (λ (n : ℕ). n) old olds);
            event = λ first. omega (arith, rest.event (omega arith));
            start =
                in_tail old olds (old + rest.index) rest.index (rest.event (omega arith)) refl
                ∙ cons_same _ _ _ _ refl rest.start
                ∙ sym (in_tail len lens row (row - len) (omega arith) (omega arith));
          }
    ]

-- a row is as it was, where its event is old, or it is at its start
pub data IsGrown (olds lens : List ℕ) (words : List ℕ) (row : ℕ) (v : List ℕ) : Type 0 where
  Kept : (kept : ℕ) → kept ≤ sum olds → start_of olds kept ≡ start_of lens row → v ≡ row_at olds words kept → IsGrown olds lens words row v
  AtStart : v ≡ start_of lens row → IsGrown olds lens words row v

option_case : (o : Option ℕ) → ((kept : ℕ) × (o ≡ Some kept)) ⊎ (o ≡ None)
option_case None = inr refl
option_case (Some kept) = inl (kept, refl)

pub grown_is : (lens : List ℕ) (old : RowsView) (row : ℕ) → length old.lens ≡ length lens → IsGrown old.lens lens old.words row (grown_row lens old row)
grown_is lens old row same =
    elim (option_case (old_row old.lens lens row)) [
      | inl found ↦
          let h = stood 0 old.lens lens row found.0 same found.1 in
          Kept found.0 (omega (arith, h.is, h.there)) (ap (λ r. start_of old.lens r) (omega (arith, h.is)) ∙ h.start) (ap (λ o. kept_or_start lens old row o) found.1)
      | inr none ↦ AtStart (ap (λ o. kept_or_start lens old row o) none)
    ]

-- the earlier least rows, grown, lie between the starts and the later closed vectors
pub grown_below : (before after : SystemView) → IsSystem before → Grows before after → (words : List ℕ) → AreLeastRows before words → (row : ℕ) (v : List ℕ) → IsGrown before.lens after.lens words row v
    → IsBelowLeast after (start_of after.lens row) v
grown_below before after is grows words least row v (AtStart same) =
    let P : List ℕ → Type 0 = IsBelowLeast after (start_of after.lens row) in
    subst P (sym same) record { vector = start_of-vector after.lens row; above = record { each = λ i. omega arith }; below = λ c closed. closed.above }
grown_below before after is grows words least row v (Kept kept there start same) =
    let P : List ℕ → Type 0 = IsBelowLeast after (start_of after.lens row) in
    let From : List ℕ → Type 0 = λ s. IsLeastFrom before s (row_at before.lens words kept) in
    let here : IsLeastFrom before (start_of after.lens row) (row_at before.lens words kept) = subst From start (least.each kept there) in
    subst P (sym same) record {
      vector = record { size = here.closed.vector.size ∙ grows.fell.count; within = λ i. omega (arith, here.closed.vector.within i, grows.fell.each i) };
      above = here.closed.above;
      below = λ c closed. least_below before after is grows (start_of after.lens row) _ c here closed;
    }

-- the rows of one system after another, where the earlier ones are the least
pub grown_row_below : (before after : SystemView) → IsSystem before → Grows before after → (old : RowsView) → old.lens ≡ before.lens → AreLeastRows before old.words → (row : ℕ)
    → IsBelowLeast after (start_of after.lens row) (grown_row after.lens old row)
grown_row_below before after is grows old same least row =
    let P : List ℕ → Type 0 = λ lens. IsGrown lens after.lens old.words row (grown_row after.lens old row) in
    grown_below before after is grows old.words least row _ (subst P same (grown_is after.lens old row (ap length same ∙ grows.fell.count)))

-- a row as it was has as many words as there are processes
pub size_grown_row : (lens : List ℕ) (old : RowsView) → AreRows old → length old.lens ≡ length lens → (row : ℕ) → length (grown_row lens old row) ≡ length lens
size_grown_row lens old rows same row =
    elim (grown_is lens old row same) [
      | Kept kept there start is ↦ ap length is ∙ length-row_at old.lens old.words kept there rows.size ∙ same
      | AtStart is ↦ ap length is ∙ length-start_of lens row
    ]

pub grown_are_rows : (lens words : List ℕ) (old : RowsView) → AreRows old → length old.lens ≡ length lens → IsShape lens → words ≡ grown_words lens old → AreRows record { lens = lens; words = words }
grown_are_rows lens words old rows same shape is = record {
  shape = shape;
  size = ap length is ∙ length-first_rows (grown_row lens old) (length lens) (sum lens + 1) (λ row _. size_grown_row lens old rows same row);
}

pub length-grown_row : (before after : SystemView) → IsSystem before → Grows before after → (old : RowsView) → old.lens ≡ before.lens → AreLeastRows before old.words → (row : ℕ)
    → length (grown_row after.lens old row) ≡ length after.lens
length-grown_row before after is grows old same least row = (grown_row_below before after is grows old same least row).vector.size

-- the rows as they stand among the words
pub grown_rows_below : (before after : SystemView) → IsSystem before → Grows before after → (old : RowsView) → old.lens ≡ before.lens → AreLeastRows before old.words → (row : ℕ) → row ≤ sum after.lens
    → IsBelowLeast after (start_of after.lens row) (row_at after.lens (grown_words after.lens old) row)
grown_rows_below before after is grows old same least row there =
    let P : List ℕ → Type 0 = IsBelowLeast after (start_of after.lens row) in
    subst P (sym (row_at-first_rows after.lens (grown_row after.lens old) (length-grown_row before after is grows old same least) row there)) (grown_row_below before after is grows old same least row)

-- the bottom's row is the first one still
pub old_row-bottom : (olds lens : List ℕ) → 1 ≤ length olds → length olds ≡ length lens → old_row olds lens 0 ≡ Some 0
old_row-bottom [] lens some same = absurd (omega arith)
old_row-bottom (old ∷ olds) [] some same = absurd (omega arith)
old_row-bottom (old ∷ olds) (len ∷ lens) some same =
    elim (old_row_case 0 old olds len lens 0) [
      | Here _ _ is ↦ is
      | New new _ ↦ absurd (omega arith)
      | Later past _ ↦ absurd (omega arith)
    ]

-- the event at a position of a process, where `before` counts the old events to the left
module _ (position : ℕ) (first : 1 ≤ position) where
  past_head : (len process : ℕ) (lens : List ℕ) → sum (take (suc process) (len ∷ lens)) + position ≡ len + (sum (take process lens) + position)
  past_head len process lens = omega (arith, sum_by-cons (λ (n : ℕ). n) len (take process lens))

  row_from-kept : (before : ℕ) (olds lens : List ℕ) (process : ℕ) → length olds ≡ length lens → process < length lens → position ≤ get_or lens process 0 → position ≤ get_or olds process 0
      → old_row_from before olds lens (sum (take process lens) + position) ≡ Some (before + (sum (take process olds) + position))
  row_from-kept before [] lens process same there last old_too = absurd (omega arith)
  row_from-kept before (old ∷ olds) [] process same there last old_too = absurd (omega arith)
  row_from-kept before (old ∷ olds) (len ∷ lens) zero same there last old_too =
      elim (old_row_case before old olds len lens (0 + position)) [
        | Here _ _ is ↦ is
        | New new _ ↦ absurd (omega arith)
        | Later past _ ↦ absurd (omega arith)
      ]
  row_from-kept before (old ∷ olds) (len ∷ lens) (suc process) same there last old_too =
      let row : sum (take (suc process) (len ∷ lens)) + position ≡ len + (sum (take process lens) + position) = past_head len process lens in
      elim (old_row_case before old olds len lens (sum (take (suc process) (len ∷ lens)) + position)) [
        | Here here _ _ ↦ absurd (omega arith)
        | New new _ ↦ absurd (omega arith)
        | Later _ is ↦
            is
            ∙ ap (λ (r : ℕ). old_row_from (before + old) olds lens r) (let rest : sum (take (suc process) (len ∷ lens)) + position - len ≡ sum (take process lens) + position = omega arith in rest)
            ∙ row_from-kept (before + old) olds lens process (omega arith) (omega arith) last old_too
            ∙ ap (λ (r : ℕ). Some r) (omega (arith, past_head old process olds))
      ]

  row_from-new : (before : ℕ) (olds lens : List ℕ) (process : ℕ) → length olds ≡ length lens → process < length lens → position ≤ get_or lens process 0 → get_or olds process 0 < position
      → old_row_from before olds lens (sum (take process lens) + position) ≡ None
  row_from-new before [] lens process same there last new = absurd (omega arith)
  row_from-new before (old ∷ olds) [] process same there last new = absurd (omega arith)
  row_from-new before (old ∷ olds) (len ∷ lens) zero same there last new =
      elim (old_row_case before old olds len lens (0 + position)) [
        | Here _ here _ ↦ absurd (omega arith)
        | New _ is ↦ is
        | Later past _ ↦ absurd (omega arith)
      ]
  row_from-new before (old ∷ olds) (len ∷ lens) (suc process) same there last new =
      let row : sum (take (suc process) (len ∷ lens)) + position ≡ len + (sum (take process lens) + position) = past_head len process lens in
      elim (old_row_case before old olds len lens (sum (take (suc process) (len ∷ lens)) + position)) [
        | Here here _ _ ↦ absurd (omega arith)
        | New here _ ↦ absurd (omega arith)
        | Later _ is ↦
            is
            ∙ ap (λ (r : ℕ). old_row_from (before + old) olds lens r) (let rest : sum (take (suc process) (len ∷ lens)) + position - len ≡ sum (take process lens) + position = omega arith in rest)
            ∙ row_from-new (before + old) olds lens process (omega arith) (omega arith) last new
      ]

-- the rows of a process's old events, as they were, and of its new ones
module _ (lens : List ℕ) (old : RowsView) (process : ℕ) (same : length old.lens ≡ length lens) (there : process < length lens) where
  pub grown_row-kept : (k : ℕ) → k < get_or old.lens process 0 → k < get_or lens process 0
      → grown_row lens old (sum (take process lens) + 1 + k) ≡ row_at old.lens old.words (sum (take process old.lens) + 1 + k)
  grown_row-kept k kept last =
      let row : sum (take process lens) + 1 + k ≡ sum (take process lens) + (k + 1) = omega arith in
      let was : 0 + (sum (take process old.lens) + (k + 1)) ≡ sum (take process old.lens) + 1 + k = omega arith in
      ap (grown_row lens old) row
      ∙ ap (λ o. kept_or_start lens old (sum (take process lens) + (k + 1)) o) (row_from-kept (k + 1) (omega arith) 0 old.lens lens process same there (omega arith) (omega arith))
      ∙ ap (row_at old.lens old.words) was

  pub grown_row-new : (k : ℕ) → get_or old.lens process 0 ≤ k → k < get_or lens process 0
      → grown_row lens old (sum (take process lens) + 1 + k) ≡ start_of lens (sum (take process lens) + 1 + k)
  grown_row-new k new last =
      let row : sum (take process lens) + 1 + k ≡ sum (take process lens) + (k + 1) = omega arith in
      ap (grown_row lens old) row
      ∙ ap (λ o. kept_or_start lens old (sum (take process lens) + (k + 1)) o) (row_from-new (k + 1) (omega arith) 0 old.lens lens process same there (omega arith) (omega arith))
      ∙ ap (start_of lens) (sym row)
