-- Rows that stand together, one block after the other.
use Rattle.std.proofs.Common.{◌≡◌, ℕ, zero, suc, ◌+◌, ◌-◌, ◌*◌, ◌<◌, ◌≤◌, List, ◌++◌, length, sum, get_or, take, drop, slice_range, refl, arith, sym, ap, ◌∙◌, append_assoc, append-nil}
use Rattle.std.proofs.lemmas.List.{drop-drop}
use Rattle.std.proofs.Math.Seq.{take-add}
use Rattle.std.proofs.lemmas.List.Sums.{sum_by_more}
use Rattle.pull_system.specs.Rows.{RowsView, start_of, row_at, first_rows, row_block}
use Rattle.pull_system.specs.Growth.{DidNotFall, kept_or_start, grown_row}
use Rattle.pull_system.proofs.Growing.{old_row-bottom, grown_row-kept, grown_row-new}

-- rows that are the same, one by one
first_rows_same : (f g : ℕ → List ℕ) (count : ℕ) → ((k : ℕ) → k < count → f k ≡ g k) → first_rows f count ≡ first_rows g count
first_rows_same f g zero each = refl
first_rows_same f g (suc count) each =
    ap (λ (xs : List ℕ). xs ++ f count) (first_rows_same f g count (λ k below. each k (omega arith)))
    ∙ ap (λ (xs : List ℕ). first_rows g count ++ xs) (each count (omega arith))

-- the first rows, and as many behind them
pub first_rows-add : (f : ℕ → List ℕ) (first count : ℕ) → first_rows f (first + count) ≡ first_rows f first ++ row_block f first count
first_rows-add f first zero = ap (first_rows f) (let none : first + 0 ≡ first = omega arith in none) ∙ sym (append-nil (first_rows f first))
first_rows-add f first (suc count) =
    ap (first_rows f) (let more : first + suc count ≡ suc (first + count) = omega arith in more)
    ∙ ap (λ (xs : List ℕ). xs ++ f (first + count)) (first_rows-add f first count)
    ∙ append_assoc (first_rows f first) (row_block f first count) (f (first + count))

-- a block of the words is its rows, one after the other
pub slice_range-rows : (lens words : List ℕ) (first count : ℕ) → slice_range words (first * length lens) ((first + count) * length lens) ≡ row_block (row_at lens words) first count
slice_range-rows lens words first zero =
    let w : ℕ = length lens in
    ap (λ (n : ℕ). take n (drop (first * w) words)) (let none : (first + 0) * w - first * w ≡ 0 = omega arith in none)
slice_range-rows lens words first (suc count) =
    let w : ℕ = length lens in
    let rest : List ℕ = drop (first * w) words in
    ap (λ (n : ℕ). take n rest) (let size : (first + suc count) * w - first * w ≡ count * w + w = omega arith in size)
    ∙ take-add (count * w) w rest
    ∙ ap (λ (n : ℕ). take n rest ++ take w (drop (count * w) rest)) (let size : count * w ≡ (first + count) * w - first * w = omega arith in size)
    ∙ ap (λ (xs : List ℕ). xs ++ take w (drop (count * w) rest)) (slice_range-rows lens words first count)
    ∙ ap (λ (xs : List ℕ). row_block (row_at lens words) first count ++ take w xs)
    (drop-drop (count * w) (first * w) words ∙ ap (λ (n : ℕ). drop n words) (let place : first * w + count * w ≡ (first + count) * w + 0 = omega arith in place))
    ∙ ap (λ (n : ℕ). row_block (row_at lens words) first count ++ take n (drop ((first + count) * w + 0) words))
    (let size : w ≡ (first + count + 1) * w + 0 - ((first + count) * w + 0) = omega arith in size)

-- the rows of a process's events, behind those before them
pub grown_process : (lens : List ℕ) (old : RowsView) (process : ℕ) → DidNotFall old.lens lens → process < length lens → (words kept new : List ℕ)
    → words ≡ first_rows (grown_row lens old) (sum (take process lens) + 1)
    → kept ≡ words ++ row_block (row_at old.lens old.words) (sum (take process old.lens) + 1) (get_or old.lens process 0)
    → new ≡ kept ++ row_block (start_of lens) (sum (take process lens) + 1 + get_or old.lens process 0) (get_or lens process 0 - get_or old.lens process 0)
    → new ≡ first_rows (grown_row lens old) (sum (take (process + 1) lens) + 1)
grown_process lens old process fell there words kept new is is_kept is_new =
    let f : ℕ → List ℕ = grown_row lens old in
    let first : ℕ = sum (take process lens) + 1 in
    let before : ℕ = get_or old.lens process 0 in
    let more : ℕ = get_or lens process 0 - before in
    let few : before ≤ get_or lens process 0 = fell.each process in
    let end : first + before + more ≡ sum (take (process + 1) lens) + 1 = omega (arith, sum_by_more (λ (n : ℕ). n) lens process 0 there) in
    let olds : row_block (row_at old.lens old.words) (sum (take process old.lens) + 1) before ≡ row_block f first before =
    first_rows_same _ _ before (λ k below. sym (grown_row-kept lens old process fell.count there k below (omega arith))) in
    let news : row_block (start_of lens) (first + before) more ≡ row_block f (first + before) more =
    first_rows_same _ _ more (λ k below.
    let row : first + before + k ≡ first + (before + k) = omega arith in
    ap (start_of lens) row ∙ sym (grown_row-new lens old process fell.count there (before + k) (omega arith) (omega arith)) ∙ ap f (sym row)) in
    is_new
    ∙ ap (λ (xs : List ℕ). xs ++ row_block (start_of lens) (first + before) more)
    (is_kept ∙ ap (λ (xs : List ℕ). xs ++ row_block (row_at old.lens old.words) (sum (take process old.lens) + 1) before) is
    ∙ ap (λ (xs : List ℕ). first_rows f first ++ xs) olds ∙ sym (first_rows-add f first before))
    ∙ ap (λ (xs : List ℕ). first_rows f (first + before) ++ xs) news
    ∙ sym (first_rows-add f (first + before) more)
    ∙ ap (first_rows f) end

-- the bottom's row alone
pub grown_bottom : (lens : List ℕ) (old : RowsView) → 1 ≤ length lens → length old.lens ≡ length lens → row_at old.lens old.words 0 ≡ first_rows (grown_row lens old) (sum (take 0 lens) + 1)
grown_bottom lens old some same = sym (ap (λ o. kept_or_start lens old 0 o) (old_row-bottom old.lens lens (omega arith) same))

-- the rows behind some of a process's events, one more
pub rows_more : (f : ℕ → List ℕ) (words now new : List ℕ) (first count : ℕ) → now ≡ words ++ row_block f first count → new ≡ now ++ f (first + count) → new ≡ words ++ row_block f first (count + 1)
rows_more f words now new first count is more =
    more
    ∙ ap (λ (xs : List ℕ). xs ++ f (first + count)) is
    ∙ append_assoc words (row_block f first count) (f (first + count))
    ∙ ap (λ (n : ℕ). words ++ row_block f first n) (let next : suc count ≡ count + 1 = omega arith in next)
