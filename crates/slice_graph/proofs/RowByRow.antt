-- Tables that are made row by row.
use Rattle.std.proofs.Common.{◌≡◌, ℕ, zero, suc, ◌+◌, ◌*◌, ◌<◌, ◌≤◌, List, [], ◌∷◌, ◌++◌, length, get_or, map, take, replicate, refl, sym, ap, ◌∙◌, arith, append_assoc, append-nil}
use Rattle.std.specs.List.{range_with_len}
use Rattle.std.proofs.lemmas.List.FromFn.{map-range_with_len_more}
use Rattle.std.proofs.lemmas.List.{length-replicate}
use Rattle.run_model.specs.Cut.{count}
use Rattle.pull_fans.specs.Fans.{HasRow, HaveRows, AreTables, column}
use Rattle.slice_graph.proofs.Pairs.{entry_more}

no_tables : (n i : ℕ) → get_or {A = List ℕ} (replicate n []) i [] ≡ []
no_tables zero i = refl
no_tables (suc n) zero = refl
no_tables (suc n) (suc i) = no_tables n i

pub tables_none : (procs : ℕ) (tables : List (List ℕ)) → tables ≡ replicate procs [] → (f : ℕ → ℕ → ℕ) → AreTables f procs 0 tables
tables_none procs tables same f = record {
  size = ap length same ∙ length-replicate procs [];
  each = λ j there. ap (λ (ts : List (List ℕ)). get_or ts j []) same ∙ no_tables procs j;
}

-- one row more
pub tables_more : (f : ℕ → ℕ → ℕ) (procs count : ℕ) (row : List ℕ) (before now : List (List ℕ)) → AreTables f procs count before → HasRow row before now → ((j : ℕ) → j < procs → get_or row j 0 ≡ f j count) → AreTables f procs (count + 1) now
tables_more f procs count row before now are has is = record {
  size = has.size ∙ are.size;
  each = λ j there. entry_more (f j) (get_or before j []) (get_or now j []) count (get_or row j 0) (are.each j there) (has.each j (omega (arith, there, are.size))) (is j there);
}

-- so many numbers more
block_more : (g : ℕ → ℕ) (width count more j : ℕ) (rows : List ℕ) → ((x : ℕ) → x < more → get_or rows (x * width + j) 0 ≡ g (count + x))
    → map g (range_with_len 0 count) ++ column width more rows j ≡ map g (range_with_len 0 (count + more))
block_more g width count zero j rows is = append-nil (map g (range_with_len 0 count)) ∙ ap (λ (n : ℕ). map g (range_with_len 0 n)) (omega arith)
block_more g width count (suc more) j rows is =
    let next : suc more ≡ more + 1 = omega arith in
    let all : count + more + 1 ≡ count + suc more = omega arith in
    ap (λ (n : ℕ). map g (range_with_len 0 count) ++ column width n rows j) next
    ∙ ap (λ (xs : List ℕ). map g (range_with_len 0 count) ++ xs) (map-range_with_len_more (λ x. get_or rows (x * width + j) 0) 0 more more (omega arith))
    ∙ sym (append_assoc (map g (range_with_len 0 count)) (column width more rows j) (get_or rows (more * width + j) 0 ∷ []))
    ∙ ap (λ (xs : List ℕ). xs ++ get_or rows (more * width + j) 0 ∷ []) (block_more g width count more j rows (λ x lt. is x (omega (arith, lt))))
    ∙ ap (λ (x : ℕ). map g (range_with_len 0 (count + more)) ++ x ∷ []) (is more (omega arith))
    ∙ sym (map-range_with_len_more g 0 (count + more) (count + more) (omega arith))
    ∙ ap (λ (n : ℕ). map g (range_with_len 0 n)) all

-- so many rows more
pub tables_block : (f : ℕ → ℕ → ℕ) (procs count more : ℕ) (rows : List ℕ) (before now : List (List ℕ)) → AreTables f procs count before → HaveRows rows more before now
    → ((x j : ℕ) → x < more → j < procs → get_or rows (x * procs + j) 0 ≡ f j (count + x)) → AreTables f procs (count + more) now
tables_block f procs count more rows before now are have is = record {
  size = have.size ∙ are.size;
  each = λ j there.
      have.each j (omega (arith, there, are.size))
      ∙ ap (λ (n : ℕ). get_or before j [] ++ column n more rows j) are.size
      ∙ ap (λ (xs : List ℕ). xs ++ column procs more rows j) (are.each j there)
      ∙ block_more (f j) procs count more j rows (λ x lt. is x j lt there);
}

-- the first of some zeros
pub zeros_of : (most n : ℕ) → n ≤ most → take {A = ℕ} n (replicate most 0) ≡ replicate n 0
zeros_of most zero few = refl
zeros_of zero (suc n) few = absurd (omega arith)
zeros_of (suc most) (suc n) few = ap (λ (xs : List ℕ). 0 ∷ xs) (zeros_of most n (omega arith))

pub zero_counts : (n i : ℕ) → (length {A = ℕ} (replicate n 0) ≡ n) × (count (replicate n 0) i ≡ 0)
zero_counts n i = (length-replicate n 0, none n i)
  where
    none : (n i : ℕ) → count (replicate n 0) i ≡ 0
    none zero i = refl
    none (suc n) zero = refl
    none (suc n) (suc i) = none n i
