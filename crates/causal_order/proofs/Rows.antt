-- Rows of one width that stand one behind the other.
use Rattle.std.proofs.Common.{◌≡◌, ℕ, zero, suc, ◌+◌, ◌-◌, ◌*◌, ◌<◌, ◌≤◌, List, [], ◌∷◌, ◌++◌, length, take, drop, get_or, refl, sym, ap, ◌∙◌, arith}
use Rattle.std.proofs.Math.Nat.{mul-le-mul_right}
use Rattle.std.proofs.lemmas.List.{take_all, take-take, length-drop, take-append-le, drop-append-le, drop-drop, drop-take}
use Rattle.run_model.specs.Cut.{Cut}
use Rattle.causal_order.specs.Blocks.{BlockView, rows_of}

pub length-rows_of : (width n : ℕ) (counts : List ℕ) → length (rows_of width n counts) ≡ n
unfolding rows_of
length-rows_of width zero counts = refl
length-rows_of width (suc n) counts = ap (λ (k : ℕ). suc k) (length-rows_of width n (drop width counts))

pub row_at : (width n p : ℕ) (counts : List ℕ) → p < n → get_or (rows_of width n counts) p [] ≡ take width (drop (p * width) counts)
unfolding rows_of
row_at width zero p counts h = absurd (omega arith)
row_at width (suc n) zero counts h =
    let none : 0 * width ≡ 0 = omega arith in
    ap (λ (k : ℕ). take width (drop k counts)) (sym none)
row_at width (suc n) (suc p) counts h =
    let place : suc p * width ≡ width + p * width = omega arith in
    row_at width n p (drop width counts) (omega arith) ∙ ap (take width) (drop-drop (p * width) width counts) ∙ ap (λ (k : ℕ). take width (drop k counts)) (sym place)

pub rows_push : (width n : ℕ) (counts row : List ℕ) → length counts ≡ n * width → length row ≡ width → rows_of width (suc n) (counts ++ row) ≡ rows_of width n counts ++ row ∷ []
unfolding rows_of
rows_push width zero [] row h k = ap (λ (r : List ℕ). r ∷ []) (take_all width row (omega arith))
rows_push width zero (x ∷ counts) row h k = absurd (omega arith)
rows_push width (suc n) counts row h k =
    let fits : width ≤ length counts = omega arith in
    let rest : length (drop width counts) ≡ n * width = omega (arith, length-drop width counts) in
    ap (λ (r : List ℕ). r ∷ rows_of width (suc n) (drop width (counts ++ row))) (take-append-le width counts row fits)
    ∙ ap (λ (rs : List Cut). take width counts ∷ rs) (ap (rows_of width (suc n)) (drop-append-le width counts row fits) ∙ rows_push width n (drop width counts) row rest k)

rows_take : (width len n : ℕ) (counts : List ℕ) → len ≤ n → rows_of width len (take (len * width) counts) ≡ take len (rows_of width n counts)
unfolding rows_of
rows_take width zero n counts h = refl
rows_take width (suc len) zero counts h = absurd (omega arith)
rows_take width (suc len) (suc n) counts h =
    let place : suc len * width ≡ width + len * width = omega arith in
    let front : take width (take (suc len * width) counts) ≡ take width counts = take-take width (suc len * width) counts (omega arith) in
    let rest : drop width (take (suc len * width) counts) ≡ take (len * width) (drop width counts) =
    ap (λ (k : ℕ). drop width (take k counts)) place ∙ drop-take width (len * width) counts in
    ap (λ (r : List ℕ). r ∷ rows_of width len (drop width (take (suc len * width) counts))) front
    ∙ ap (λ (rs : List Cut). take width counts ∷ rs) (ap (rows_of width len) rest ∙ rows_take width len n (drop width counts) (omega arith))

-- ---- a block

abbrev pub view_of : ℕ → ℕ → List ℕ → BlockView
view_of width len counts = record { width = width; rows = rows_of width len counts }

pub no_rows_yet : (width : ℕ) (counts : List ℕ) → view_of width 0 counts ≡ record { width = width; rows = [] }
unfolding rows_of
no_rows_yet width counts = refl

abbrev pub with_rows : ℕ → List Cut → BlockView
with_rows width rows = record { width = width; rows = rows }

pub same_rows : (width width' : ℕ) (rows rows' : List Cut) → width ≡ width' → rows ≡ rows' → with_rows width rows ≡ with_rows width' rows'
same_rows width width' rows rows' p q = ap (λ (w : ℕ). with_rows w rows) p ∙ ap (with_rows width') q

-- the place of a row is within the counts
pub row_within : (width len p total : ℕ) → total ≡ len * width → p < len → p * width + width ≤ total
row_within width len p total h lt =
    let more : (p + 1) * width ≤ len * width = mul-le-mul_right width (omega arith) in
    omega arith

pub rows_within : (width len n total : ℕ) → total ≡ n * width → len ≤ n → len * width ≤ total
rows_within width len n total h le =
    let more : len * width ≤ n * width = mul-le-mul_right width le in
    omega arith

-- the row that is cut out
pub row_is : (width len : ℕ) (counts : List ℕ) (b : BlockView) (p end : ℕ) → view_of width len counts ≡ b → p < len → end ≡ p * width + width
    → take (end - p * width) (drop (p * width) counts) ≡ get_or b.rows p []
row_is width len counts b p end is lt e =
    let size : end - p * width ≡ width = omega arith in
    ap (λ (k : ℕ). take k (drop (p * width) counts)) size ∙ sym (row_at width len p counts lt) ∙ ap (λ (x : BlockView). get_or x.rows p []) is

pub pushed : (width len : ℕ) (counts row : List ℕ) (b : BlockView) → view_of width len counts ≡ b → length counts ≡ len * width → length row ≡ b.width
    → view_of width (len + 1) (counts ++ row) ≡ record { width = b.width; rows = b.rows ++ row ∷ [] }
pushed width len counts row b is h k =
    let one : len + 1 ≡ suc len = omega arith in
    let w : width ≡ b.width = ap (λ (x : BlockView). x.width) is in
    same_rows _ _ _ _ w (ap (λ (n : ℕ). rows_of width n (counts ++ row)) one ∙ rows_push width len counts row h (omega arith) ∙ ap (λ (x : BlockView). x.rows ++ row ∷ []) is)

pub cut_to : (width len n : ℕ) (counts : List ℕ) (b : BlockView) → view_of width n counts ≡ b → len ≤ n
    → view_of width len (take (len * width) counts) ≡ record { width = b.width; rows = take len b.rows }
cut_to width len n counts b is le =
    same_rows _ _ _ _ (ap (λ (x : BlockView). x.width) is) (rows_take width len n counts le ∙ ap (λ (x : BlockView). take len x.rows) is)

pub rows_are : (width len : ℕ) (counts : List ℕ) (b : BlockView) → view_of width len counts ≡ b → length b.rows ≡ len
rows_are width len counts b is = sym (ap (λ (x : BlockView). length x.rows) is) ∙ length-rows_of width len counts
