-- Blocks of clocks, one for each process.
use Rattle.std.proofs.Common.{◌≡◌, ℕ, zero, suc, ◌-◌, ◌<◌, ◌≤◌, List, [], ◌∷◌, ◌++◌, length, map, take, get_or, set, sum, replicate, refl, sym, ap, ◌∙◌, arith}
use Rattle.std.proofs.lemmas.List.{length-map, map-set, get_or-replicate, length-replicate, take_all}
use Rattle.run_model.specs.Cut.{Cut, Clocks, lengths}
use Rattle.run_model.specs.Consistent.{clock}
use Rattle.pota_base.specs.Limits.{most_events}
use Rattle.causal_order.specs.Blocks.{BlockView, AreWide, clocks_in, no_rows}
use Rattle.causal_order.specs.Growth.{with_row}
use Rattle.causal_order.proofs.Growing.{count-lengths, item_le_sum}

default_free : (bs : List BlockView) (p : ℕ) (d e : BlockView) → p < length bs → get_or bs p d ≡ get_or bs p e
default_free [] p d e h = absurd (omega arith)
default_free (b ∷ bs) zero d e h = refl
default_free (b ∷ bs) (suc p) d e h = default_free bs p d e (omega arith)

block_is : (bs : List BlockView) (p : ℕ) (b : BlockView) → p < length bs → b ≡ get_or bs p b → b ≡ get_or bs p no_rows
block_is bs p b h is = is ∙ default_free bs p b no_rows h

rows_at : (bs : List BlockView) (p : ℕ) → get_or (clocks_in bs) p [] ≡ (get_or bs p no_rows).rows
rows_at [] p = refl
rows_at (b ∷ bs) zero = refl
rows_at (b ∷ bs) (suc p) = rows_at bs p

pub count_is : (bs : List BlockView) (o : Clocks) → clocks_in bs ≡ o → length bs ≡ length o
count_is bs o is = sym (length-map bs (λ (b : BlockView). b.rows)) ∙ ap length is

-- the rows of the block of a process
pub block_rows : (bs : List BlockView) (o : Clocks) (p : ℕ) (b : BlockView) → clocks_in bs ≡ o → p < length o → b ≡ get_or bs p b → b.rows ≡ get_or o p []
block_rows bs o p b is lt at =
    ap (λ (x : BlockView). x.rows) (block_is bs p b (omega (arith, count_is bs o is)) at) ∙ sym (rows_at bs p) ∙ ap (λ (x : Clocks). get_or x p []) is

pub block_width : (bs : List BlockView) (o : Clocks) (p : ℕ) (b : BlockView) → clocks_in bs ≡ o → AreWide bs → p < length o → b ≡ get_or bs p b → b.width ≡ length o
block_width bs o p b is wide lt at =
    let count = count_is bs o is in
    ap (λ (x : BlockView). x.width) (block_is bs p b (omega (arith, count)) at) ∙ wide p (omega (arith, count)) ∙ count

pub clock_is : (o : Clocks) (p position : ℕ) (rows : List Cut) (row : Cut) → 0 < position → row ≡ get_or rows (position - 1) [] → rows ≡ get_or o p [] → row ≡ clock o p position
unfolding clock
clock_is o p zero rows row some is at = absurd (omega (arith, some))
clock_is o p (suc a) rows row some is at =
    let place : suc a - 1 ≡ a = omega arith in
    is ∙ ap (λ (rs : List Cut). get_or rs (suc a - 1) []) at ∙ ap (λ (k : ℕ). get_or (get_or o p []) k []) place

-- the rows of one process are others
pub rows_set : (bs : List BlockView) (o : Clocks) (p : ℕ) (new : BlockView) (rows : List Cut) → clocks_in bs ≡ o → new.rows ≡ rows → clocks_in (set bs p new) ≡ set o p rows
rows_set bs o p new rows is at =
    map-set (λ (b : BlockView). b.rows) bs p new ∙ ap (λ (x : Clocks). set x p new.rows) is ∙ ap (set o p) at

pub row_pushed : (bs : List BlockView) (o : Clocks) (p : ℕ) (b new : BlockView) (row : Cut) → clocks_in bs ≡ o → p < length o → b ≡ get_or bs p b
    → new ≡ record { width = b.width; rows = b.rows ++ row ∷ [] } → clocks_in (set bs p new) ≡ with_row o p row
row_pushed bs o p b new row is lt at made =
    rows_set bs o p new _ is (ap (λ (x : BlockView). x.rows) made ∙ ap (λ (rs : List Cut). rs ++ row ∷ []) (block_rows bs o p b is lt at))

pub rows_cut : (bs : List BlockView) (o : Clocks) (p len : ℕ) (b new : BlockView) → clocks_in bs ≡ o → p < length o → b ≡ get_or bs p b
    → new ≡ record { width = b.width; rows = take len b.rows } → clocks_in (set bs p new) ≡ set o p (take len (get_or o p []))
rows_cut bs o p len b new is lt at made =
    rows_set bs o p new _ is (ap (λ (x : BlockView). x.rows) made ∙ ap (take len) (block_rows bs o p b is lt at))

-- ---- how many clocks each process has

pub lengths_in : (bs : List BlockView) (o : Clocks) → clocks_in bs ≡ o → map (λ (b : BlockView). length b.rows) bs ≡ lengths o
unfolding lengths
lengths_in bs o is = split bs ∙ ap (map length) is
  where
    split : (xs : List BlockView) → map (λ (b : BlockView). length b.rows) xs ≡ map length (clocks_in xs)
    split [] = refl
    split (x ∷ xs) = ap (λ (ns : List ℕ). length x.rows ∷ ns) (split xs)

-- ---- a new table

abbrev pub fresh : ℕ → ℕ → List BlockView
fresh w n = replicate n (record { width = w; rows = [] })

no_rows_in : (w n : ℕ) → clocks_in (fresh w n) ≡ replicate n []
no_rows_in w zero = refl
no_rows_in w (suc n) = ap (λ (o : Clocks). [] ∷ o) (no_rows_in w n)

pub fresh_clocks : (w n : ℕ) → n ≡ w → clocks_in (fresh w n) ≡ replicate w []
fresh_clocks w n all = no_rows_in w n ∙ ap (λ (k : ℕ). replicate k []) all

pub fresh_wide : (w n : ℕ) (bs : List BlockView) → bs ≡ fresh w n → n ≡ w → AreWide bs
fresh_wide w n bs is all p lt =
    let count : length bs ≡ n = ap length is ∙ length-replicate n (record { width = w; rows = [] }) in
    ap (λ (xs : List BlockView). (get_or xs p no_rows).width) is ∙ ap (λ (b : BlockView). b.width) (get_or-replicate n p (record { width = w; rows = [] }) no_rows (omega arith)) ∙ omega (arith, count)

-- ---- the lengths of the first blocks

pub len_fits : (bs : List BlockView) (o : Clocks) (i : ℕ) (b : BlockView) → clocks_in bs ≡ o → sum (lengths o) ≤ most_events → i < length bs → b ≡ get_or bs i b → length b.rows ≤ most_events
len_fits bs o i b is few lt at =
    let len : length b.rows ≡ get_or (lengths o) i 0 = ap length (block_rows bs o i b is (omega (arith, count_is bs o is)) at) ∙ sym (count-lengths o i) in
    omega (arith, item_le_sum (lengths o) i)

pub all_lens : (bs : List BlockView) (o : Clocks) (i : ℕ) (lens : List ℕ) → clocks_in bs ≡ o → lens ≡ map (λ (b : BlockView). length b.rows) (take i bs) → length bs ≤ i → lens ≡ lengths o
all_lens bs o i lens is at all = at ∙ ap (map (λ (b : BlockView). length b.rows)) (take_all i bs all) ∙ lengths_in bs o is
