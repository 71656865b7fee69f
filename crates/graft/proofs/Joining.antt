-- The rows of a joined slice.
use Rattle.std.proofs.Common.{◌≡◌, ℕ, zero, suc, ◌+◌, ◌<◌, ◌≤◌, min, List, [], ◌∷◌, length, get_or, take, sum, Option, Some, None, refl, sym, ap, ◌∙◌, subst, arith, inl, inr}
use Rattle.std.proofs.lemmas.List.{ext_get_or}
use Rattle.run_model.specs.Cut.{Cut, Clocks, count, min_cut, lengths}
use Rattle.run_model.specs.Consistent.{IsOrder, IsConsistent, IsEvent}
use Rattle.run_model.specs.Sublattice.{IsSublattice, Smallest, Either}
use Rattle.run_model.specs.Slice.{Slice, Cuts, StandsFor}
use Rattle.run_model.specs.Operators.{min_row, joined}
use Rattle.run_model.proofs.Counts.{count-min, length-min}
use Rattle.run_model.proofs.SliceLemmas.{stands_rows}
use Rattle.meaning_laws.proofs.JoinLemmas.{joined_stands, joined_grouped, smallest_closed}
use Rattle.slice_graph.specs.Views.{SliceView, slice_of, IsCut, no_row}
use Rattle.slice_graph.specs.Fitting.{FitsOrder}
use Rattle.slice_graph.proofs.Building.{BuiltBy, fits_of_set}
use Rattle.graft.specs.Joined.{min_rows, joined_views}

-- ---- the minimum of two cuts

-- the first i counts are minima
pub record MinBelow (left right : List ℕ) (n i : ℕ) (now : List ℕ) : Type 0 where
  pub len : length now ≡ n
  pub below : (k : ℕ) → k < i → count now k ≡ min (count left k) (count right k)

pub min_none : (left right now : List ℕ) (n : ℕ) → length now ≡ n → MinBelow left right n 0 now
min_none left right now n size = record { len = size; below = λ k lt. absurd (omega arith) }

pub min_all : (left right now : List ℕ) (n i : ℕ) → MinBelow left right n i now → n ≤ i → length left ≡ n → length right ≡ n → now ≡ min_cut left right
min_all left right now n i h all l r = ext_get_or 0 now (min_cut left right) (omega (arith, h.len, length-min left right))
    (λ k lt. h.below k (omega (arith, h.len)) ∙ sym (count-min left right k))

-- ---- all rows

length-min_rows : (js ks : List (Option Cut)) → length js ≡ length ks → length (min_rows js ks) ≡ length js
length-min_rows [] ks same = refl
length-min_rows (j ∷ js) [] same = absurd (omega arith)
length-min_rows (j ∷ js) (k ∷ ks) same = ap (λ (n : ℕ). suc n) (length-min_rows js ks (omega arith))

row-min_rows : (js ks : List (Option Cut)) (r : ℕ) → length js ≡ length ks → get_or (min_rows js ks) r no_row ≡ min_row (get_or js r no_row) (get_or ks r no_row)
row-min_rows [] [] r same = refl
row-min_rows [] (k ∷ ks) r same = absurd (omega arith)
row-min_rows (j ∷ js) [] r same = absurd (omega arith)
row-min_rows (j ∷ js) (k ∷ ks) zero same = refl
row-min_rows (j ∷ js) (k ∷ ks) (suc r) same = row-min_rows js ks r (omega arith)

-- what is pushed for each row
abbrev pub MinRow : SliceView → SliceView → ℕ → Option Cut → Type 0
MinRow v w r k = k ≡ min_row (get_or v.rows r no_row) (get_or w.rows r no_row)

pub joined_built : (v w t : SliceView) (n : ℕ) → BuiltBy v.lens (MinRow v w) n t → length v.rows ≡ n → length w.rows ≡ n → t ≡ joined_views v w
joined_built v w t n h l r =
    let rows : t.rows ≡ min_rows v.rows w.rows = ext_get_or no_row t.rows (min_rows v.rows w.rows) (omega (arith, h.size, length-min_rows v.rows w.rows (omega arith)))
    (λ i lt. h.each i (omega (arith, h.size)) ∙ sym (row-min_rows v.rows w.rows i (omega arith))) in
    ap (λ (ls : List ℕ). record { lens = ls; rows = t.rows }) h.shape ∙ ap (λ (rs : List (Option Cut)). record { lens = v.lens; rows = rs }) rows

-- ---- what it stands for

pub joined_stands_for : (o : Clocks) (v w : SliceView) → v.lens ≡ w.lens → FitsOrder o v → FitsOrder o w
    → StandsFor o (slice_of (joined_views v w)) (Smallest (Either (Cuts o (slice_of v)) (Cuts o (slice_of w))))
joined_stands_for o v w same f g =
    let size : length v.rows ≡ length w.rows = omega (arith, f.count, g.count, ap sum same) in
    stands_rows o (joined (slice_of v) (slice_of w)) (slice_of (joined_views v w)) (Smallest (Either (Cuts o (slice_of v)) (Cuts o (slice_of w))))
    (sym (row-min_rows v.rows w.rows 0 size))
    (λ i a ev.
    ap (λ (lens : List ℕ). min_row (get_or v.rows (sum (take i v.lens) + a) no_row) (get_or w.rows (sum (take i lens) + a) no_row)) (sym same)
    ∙ sym (row-min_rows v.rows w.rows (sum (take i v.lens) + a) size))
    (joined_stands o (slice_of v) (slice_of w) (Cuts o (slice_of v)) (Cuts o (slice_of w)) f.stands g.stands)

either_consistent : (o : Clocks) (v w : SliceView) (c : Cut) → Either (Cuts o (slice_of v)) (Cuts o (slice_of w)) c → IsConsistent o c
either_consistent o v w c h = elim h [ inl cut ↦ cut.consistent | inr cut ↦ cut.consistent ]

pub joined_fits : (o : Clocks) → IsOrder o → (v w : SliceView) → v.lens ≡ w.lens → FitsOrder o v → FitsOrder o w → FitsOrder o (joined_views v w)
joined_fits o order v w same f g =
    fits_of_set o (joined_views v w) (Smallest (Either (Cuts o (slice_of v)) (Cuts o (slice_of w))))
    (smallest_closed o order (Either (Cuts o (slice_of v)) (Cuts o (slice_of w))) (either_consistent o v w))
    f.shape (length-min_rows v.rows w.rows (omega (arith, f.count, g.count, ap sum same)) ∙ f.count) (joined_stands_for o v w same f g)

-- ---- grouping

rows_group : (js ks ls : List (Option Cut)) → min_rows (min_rows js ks) ls ≡ min_rows js (min_rows ks ls)
rows_group [] ks ls = refl
rows_group (j ∷ js) [] ls = refl
rows_group (j ∷ js) (k ∷ ks) [] = refl
rows_group (j ∷ js) (k ∷ ks) (l ∷ ls) =
    ap (λ (r : Option Cut). r ∷ min_rows (min_rows js ks) ls) (joined_grouped j k l) ∙ ap (λ (rs : List (Option Cut)). min_row j (min_row k l) ∷ rs) (rows_group js ks ls)

pub views_group : (a b c : SliceView) → joined_views (joined_views a b) c ≡ joined_views a (joined_views b c)
views_group a b c = ap (λ (rs : List (Option Cut)). record { lens = a.lens; rows = rs }) (rows_group a.rows b.rows c.rows)

-- ---- one row

pub min_cut_cut : (lens : List ℕ) (c d : Cut) → IsCut lens c → IsCut lens d → IsCut lens (min_cut c d)
min_cut_cut lens c d h k = record { size = omega (arith, length-min c d, h.size, k.size); within = λ i. omega (arith, count-min c d i, h.within i) }
