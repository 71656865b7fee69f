-- How the sum of a floor rises when one row of it does.
use Rattle.std.proofs.Common.{◌≡◌, ◌≢◌, ℕ, zero, suc, ◌+◌, ◌-◌, ◌*◌, ◌<◌, ◌≤◌, ◌⊎◌, inl, inr, List, ◌++◌, length, sum, take, drop, refl, arith, sym, ap, ◌∙◌}
use Rattle.std.proofs.lemmas.List.{ext_get_or, take_all}
use Rattle.std.proofs.lemmas.List.Sums.{sum_by-append}
use Rattle.std.proofs.Math.Seq.{take-add}
use Rattle.std.proofs.Math.Nat.{mul-le-mul_left}
use Rattle.pull_system.specs.Vector.{IsAtMost}
use Rattle.pull_system.specs.System.{SystemView}
use Rattle.pull_system.specs.Rows.{row_at}
use Rattle.pull_system.proofs.Starts.{get_or-row_at, length-row_at}
use Rattle.pull_system.proofs.Sums.{sum-within}
use Rattle.raise_machine.specs.Bounds.{AreBounds}
use Rattle.bound_table.specs.Kept.{Follows}

-- the sum of the first rows
abbrev pub sum_rows : List ℕ → List ℕ → ℕ → ℕ
sum_rows lens words zero = 0
sum_rows lens words (suc row) = sum_rows lens words row + sum (row_at lens words row)

sum_taken : (lens words : List ℕ) (rows : ℕ) → sum (take (rows * length lens) words) ≡ sum_rows lens words rows
sum_taken lens words zero = ap (λ n. sum (take n words)) (let e : 0 * length lens ≡ 0 = omega arith in e)
sum_taken lens words (suc rows) =
    let n : ℕ = length lens in
    let row : List ℕ = take n (drop (rows * n) words) in
    let same : row ≡ row_at lens words rows =
    ap (λ k. take k (drop (rows * n) words)) (let e : n ≡ (rows + 1) * n + 0 - (rows * n + 0) = omega arith in e)
    ∙ ap (λ k. take ((rows + 1) * n + 0 - (rows * n + 0)) (drop k words)) (let e : rows * n ≡ rows * n + 0 = omega arith in e) in
    let split : take (suc rows * n) words ≡ take (rows * n) words ++ row = ap (λ k. take k words) (let e : suc rows * n ≡ rows * n + n = omega arith in e) ∙ take-add (rows * n) n words in
    ap sum split ∙ sum_by-append (λ (k : ℕ). k) (take (rows * n) words) row ∙ ap (λ k. k + sum row) (sum_taken lens words rows) ∙ ap (λ r. sum_rows lens words rows + sum r) same

-- the sum of all words, row by row
pub sum_words : (lens words : List ℕ) → length words ≡ (sum lens + 1) * length lens → sum words ≡ sum_rows lens words (sum lens + 1)
sum_words lens words size = ap sum (sym (take_all ((sum lens + 1) * length lens) words (omega arith))) ∙ sum_taken lens words (sum lens + 1)

module _ (system : SystemView) (row : ℕ) (old new v : List ℕ) (row_there : row ≤ sum system.lens) (size : length old ≡ (sum system.lens + 1) * length system.lens) (follows : Follows system row old new v) where
  -- another row is as it was
  row_same : (other : ℕ) → other ≤ sum system.lens → other ≢ row → row_at system.lens new other ≡ row_at system.lens old other
  row_same other there apart =
      let length_new = length-row_at system.lens new other there follows.bounds.size in
      ext_get_or 0 _ _ (length_new ∙ sym (length-row_at system.lens old other there size)) (λ i below.
      let i_there : i < length system.lens = omega arith in
      get_or-row_at system.lens new other i i_there ∙ follows.others.each other i apart i_there ∙ sym (get_or-row_at system.lens old other i i_there))

  -- and this one is the vector
  row_now : row_at system.lens new row ≡ v
  row_now =
      let length_new = length-row_at system.lens new row row_there follows.bounds.size in
      ext_get_or 0 _ _ (length_new ∙ sym follows.size) (λ i below.
      let i_there : i < length system.lens = omega arith in
      get_or-row_at system.lens new row i i_there ∙ sym (follows.each i i_there))

  rows_before : (rows : ℕ) → rows ≤ row → rows ≤ sum system.lens + 1 → sum_rows system.lens new rows ≡ sum_rows system.lens old rows
  rows_before zero before few = refl
  rows_before (suc rows) before few =
      ap (λ k. k + sum (row_at system.lens new rows)) (rows_before rows (omega arith) (omega arith))
      ∙ ap (λ r. sum_rows system.lens old rows + sum r) (row_same rows (omega arith) (λ same. omega (arith, same, before)))

  last : (rows : ℕ) → row < suc rows → (row < rows) ⊎ (row ≡ rows)
  last rows h = grind arith

  rows_after : (rows : ℕ) → row < rows → rows ≤ sum system.lens + 1 → sum_rows system.lens new rows + sum (row_at system.lens old row) ≡ sum_rows system.lens old rows + sum v
  rows_after zero below few = absurd (omega arith)
  rows_after (suc rows) below few =
      elim (last rows below) [
        | inl less ↦ omega (arith, rows_after rows less (omega arith), ap sum (row_same rows (omega arith) (λ same. omega (arith, same, less))))
        | inr here ↦
            let now : sum (row_at system.lens new rows) ≡ sum v = ap (λ r. sum (row_at system.lens new r)) (sym here) ∙ ap sum row_now in
            let before : sum (row_at system.lens old rows) ≡ sum (row_at system.lens old row) = ap (λ r. sum (row_at system.lens old r)) (sym here) in
            omega (arith, rows_before rows (omega arith) (omega arith), now, before)
      ]

  -- the sum of the floor rises as its row does
  pub floor_rise : sum new + sum (row_at system.lens old row) ≡ sum old + sum v
  floor_rise = omega (arith, rows_after (sum system.lens + 1) (omega arith) (omega arith), sum_words system.lens new follows.bounds.size, sum_words system.lens old size)

-- a row that was raised and settled pays for its look-ups
pub row_paid : (system : SystemView) (row : ℕ) (first old new v : List ℕ) (steps steps_now : ℕ) → row ≤ sum system.lens → length old ≡ (sum system.lens + 1) * length system.lens → Follows system row old new v
    → IsAtMost first old → AreBounds system old → steps_now + length system.pulls * sum (row_at system.lens old row) ≤ steps + length system.pulls * (1 + sum v)
    → length first ≡ length old → steps_now + length system.pulls * sum first ≤ steps + length system.pulls * (1 + sum new)
row_paid system row first old new v steps steps_now there size follows within bounds looks size_first =
    let pulls : ℕ = length system.pulls in
    let rise : pulls * (sum new + sum (row_at system.lens old row)) ≡ pulls * (sum old + sum v) = ap (λ n. pulls * n) (floor_rise system row old new v there size follows) in
    omega (arith, looks, rise, mul-le-mul_left pulls (sum-within first old size_first within.each))

pub pays_on : (pulls start steps steps_now first old new : ℕ) → steps_now + pulls * old ≤ steps + pulls * new → steps + pulls * first ≤ start + pulls * old → steps_now + pulls * first ≤ start + pulls * new
pays_on pulls start steps steps_now first old new pays before = omega arith

pub paid_on : (pulls start steps steps_now first old new done : ℕ) → steps_now + pulls * old ≤ steps + pulls * (1 + new) → steps + pulls * first ≤ start + pulls * (done + old) → steps_now + pulls * first ≤ start + pulls * (done + 1 + new)
paid_on pulls start steps steps_now first old new done pays before = omega arith

pub looks_of : (pulls start steps bottom last top : ℕ) → last ≤ top → bottom ≤ top → steps + pulls * bottom ≤ start + pulls * last → steps ≤ start + pulls * (top - bottom)
looks_of pulls start steps bottom last top less few pays =
    let split : pulls * (top - bottom + bottom) ≡ pulls * top = ap (λ n. pulls * n) (let e : top - bottom + bottom ≡ top = omega arith in e) in omega (arith, pays, split, mul-le-mul_left pulls less)
