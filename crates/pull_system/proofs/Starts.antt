-- The starts of the rows, by their places.
use Rattle.std.proofs.Common.{◌≡◌, ℕ, zero, suc, ◌+◌, ◌-◌, ◌*◌, ◌<◌, ◌≤◌, ◌⊎◌, inl, inr, Bool, List, [], ◌∷◌, ◌++◌, length, sum, get_or, set, take, drop, replicate, refl, arith, length-append, append-nil, ap, ◌∙◌, sym}
use Rattle.std.specs.Prelude.{nat_le, if◌then◌else◌}
use Rattle.std.proofs.lemmas.Bool.Decides.{leb_tells}
use Rattle.std.proofs.lemmas.List.{get_or-append-add, get_or-take, get_or-drop, length-take, length-drop, ext_get_or}
use Rattle.std.proofs.lemmas.List.Sums.{sum_by-cons}
use Rattle.std.proofs.Math.ListN.{get_or-append}
use Rattle.std.proofs.Math.Nat.{mul-le-mul_left}
use Rattle.pota_base.specs.Shape.{IsShape}
use Rattle.pull_system.specs.Vector.{IsVector}
use Rattle.pull_system.specs.Rows.{start_of, first_rows, starts, place_of, row_at, AreRows}

pub length-start_of : (lens : List ℕ) (row : ℕ) → length (start_of lens row) ≡ length lens
length-start_of [] row = refl
length-start_of (len ∷ lens) row = ap (λ n. suc n) (length-start_of lens (row - len))

-- rows of one size, one after the other
pub length-first_rows : (row_of : ℕ → List ℕ) (size rows : ℕ) → ((row : ℕ) → row < rows → length (row_of row) ≡ size) → length (first_rows row_of rows) ≡ rows * size
length-first_rows row_of size zero sizes = omega arith
length-first_rows row_of size (suc rows) sizes =
    omega (arith, length-append (first_rows row_of rows) (row_of rows), length-first_rows row_of size rows (λ row below. sizes row (omega arith)), sizes rows (omega arith))

pub length_starts : (lens : List ℕ) → length (starts lens) ≡ (sum lens + 1) * length lens
length_starts lens = length-first_rows (start_of lens) (length lens) (sum lens + 1) (λ row _. length-start_of lens row)

pub are_rows : (lens words : List ℕ) → IsShape lens → words ≡ starts lens → AreRows record { lens = lens; words = words }
are_rows lens words shape same = record { shape = shape; size = ap length same ∙ length_starts lens }

-- what the first process has of a row: the row's number, unless the row is past its events
head_case : (len row : ℕ) → ((row ≤ len) × ((if nat_le row len then row else 0) ≡ row)) ⊎ ((len < row) × ((if nat_le row len then row else 0) ≡ 0))
head_case len row =
    let choose : Bool → ℕ = λ b. if b then row else 0 in elim (leb_tells row len) [ inl h ↦ inl (h.1, ap choose h.0) | inr h ↦ inr (h.1, ap choose h.0) ]

pub start_of-bottom : (lens : List ℕ) (process : ℕ) → get_or (start_of lens 0) process 0 ≡ 0
start_of-bottom [] process = refl
start_of-bottom (len ∷ lens) zero = elim (head_case len 0) [ inl h ↦ h.1 | inr h ↦ h.1 ]
start_of-bottom (len ∷ lens) (suc process) = ap (λ row. get_or (start_of lens row) process 0) (omega arith) ∙ start_of-bottom lens process

pub cons_same : (x y : ℕ) (xs ys : List ℕ) → x ≡ y → xs ≡ ys → x ∷ xs ≡ y ∷ ys
cons_same x y xs ys p q = cc

-- the row is among the first process's
pub in_head : (len : ℕ) (lens : List ℕ) (row : ℕ) → row ≤ len → start_of (len ∷ lens) row ≡ row ∷ start_of lens 0
in_head len lens row within =
    elim (head_case len row) [
      | inl h ↦ cons_same _ _ _ _ h.1 (ap (λ r. start_of lens r) (omega arith))
      | inr h ↦ absurd (omega (arith, h.0))
    ]

-- the row is past the first process's
pub in_tail : (len : ℕ) (lens : List ℕ) (row rest : ℕ) → 1 ≤ rest → row ≡ len + rest → start_of (len ∷ lens) row ≡ 0 ∷ start_of lens rest
in_tail len lens row rest first same =
    elim (head_case len row) [
      | inl h ↦ absurd (omega (arith, h.0))
      | inr h ↦ cons_same _ _ _ _ h.1 (ap (λ r. start_of lens r) (omega arith))
    ]

pub start_of-event : (lens : List ℕ) (process position : ℕ) → process + 1 ≤ length lens → 1 ≤ position → position ≤ get_or lens process 0
    → start_of lens (sum (take process lens) + position) ≡ set (start_of lens 0) process position
start_of-event [] process position there first last = absurd (omega arith)
start_of-event (len ∷ lens) zero position there first last =
    in_head len lens (0 + position) (omega arith) ∙ cons_same _ _ _ _ (omega arith) refl ∙ ap (λ xs. set xs 0 position) (sym (in_head len lens 0 (omega arith)))
start_of-event (len ∷ lens) (suc process) position there first last =
    in_tail len lens (sum (len ∷ take process lens) + position) (sum (take process lens) + position) (omega arith) (omega (arith, sum_by-cons (λ (n : ℕ). n) len (take process lens)))
    ∙ ap (λ xs. 0 ∷ xs) (start_of-event lens process position (omega arith) first last) ∙ ap (λ xs. set xs (suc process) position) (sym (in_head len lens 0 (omega arith)))

start_of-within : (lens : List ℕ) (row i : ℕ) → get_or (start_of lens row) i 0 ≤ get_or lens i 0 + 1
start_of-within [] row i = omega arith
start_of-within (len ∷ lens) row zero = elim (head_case len row) [ inl h ↦ omega (arith, h.0, h.1) | inr h ↦ omega (arith, h.1) ]
start_of-within (len ∷ lens) row (suc i) = start_of-within lens (row - len) i

pub start_of-vector : (lens : List ℕ) (row : ℕ) → IsVector lens (start_of lens row)
start_of-vector lens row = record { size = length-start_of lens row; within = start_of-within lens row }

last : (k count : ℕ) → k < suc count → (k < count) ⊎ (k ≡ count)
last k count h = grind arith

pub first_rows-place : (row_of : ℕ → List ℕ) (size rows : ℕ) → ((row : ℕ) → row < rows → length (row_of row) ≡ size) → (row process : ℕ) → row < rows → process < size
    → get_or (first_rows row_of rows) (row * size + process) 0 ≡ get_or (row_of row) process 0
first_rows-place row_of size zero sizes row process below there = absurd (omega arith)
first_rows-place row_of size (suc rows) sizes row process below there =
    let fewer : (r : ℕ) → r < rows → length (row_of r) ≡ size = λ r h. sizes r (omega arith) in
    let all = length-first_rows row_of size rows fewer in
    elim (last row rows below) [
      | inl less ↦
          get_or-append (first_rows row_of rows) (row_of rows) 0 (row * size + process) (omega (arith, all, mul-le-mul_left size (let h : row + 1 ≤ rows = omega arith in h)))
          ∙ first_rows-place row_of size rows fewer row process less there
      | inr same ↦
          ap (λ r. get_or (first_rows row_of rows ++ row_of rows) (r * size + process) 0) same
          ∙ ap (λ n. get_or (first_rows row_of rows ++ row_of rows) (n + process) 0) (sym all)
          ∙ get_or-append-add (first_rows row_of rows) (row_of rows) process 0
          ∙ ap (λ r. get_or (row_of r) process 0) (sym same)
    ]

pub starts-place : (lens : List ℕ) (row process : ℕ) → row ≤ sum lens → process < length lens → get_or (starts lens) (place_of lens row process) 0 ≡ get_or (start_of lens row) process 0
starts-place lens row process below there = first_rows-place (start_of lens) (length lens) (sum lens + 1) (λ r _. length-start_of lens r) row process (omega arith) there

-- the words of a row as a list
pub get_or-row_at : (lens words : List ℕ) (row process : ℕ) → process < length lens → get_or (row_at lens words row) process 0 ≡ get_or words (place_of lens row process) 0
get_or-row_at lens words row process there =
    get_or-take ((row + 1) * length lens + 0 - (row * length lens + 0)) (drop (row * length lens + 0) words) process 0 (omega arith)
    ∙ get_or-drop (row * length lens + 0) words process 0 ∙ ap (λ i. get_or words i 0) (let e : row * length lens + 0 + process ≡ row * length lens + process = omega arith in e)

pub length-row_at : (lens words : List ℕ) (row : ℕ) → row ≤ sum lens → length words ≡ (sum lens + 1) * length lens → length (row_at lens words row) ≡ length lens
length-row_at lens words row row_there size =
    omega (arith, length-take ((row + 1) * length lens + 0 - (row * length lens + 0)) (drop (row * length lens + 0) words), length-drop (row * length lens + 0) words, mul-le-mul_left (length lens) (let h : row + 1 ≤ sum lens + 1 = omega arith in h))

-- the words of one row among rows of one size
pub row_at-first_rows : (lens : List ℕ) (row_of : ℕ → List ℕ) → ((row : ℕ) → length (row_of row) ≡ length lens) → (row : ℕ) → row ≤ sum lens → row_at lens (first_rows row_of (sum lens + 1)) row ≡ row_of row
row_at-first_rows lens row_of sizes row there =
    let words : List ℕ = first_rows row_of (sum lens + 1) in
    let size : length (row_at lens words row) ≡ length lens = length-row_at lens words row there (length-first_rows row_of (length lens) (sum lens + 1) (λ r _. sizes r)) in
    ext_get_or 0 _ _ (size ∙ sym (sizes row)) (λ i below.
    let i_there : i < length lens = omega arith in
    get_or-row_at lens words row i i_there ∙ first_rows-place row_of (length lens) (sum lens + 1) (λ r _. sizes r) row i (omega arith) i_there)

lt_or_ge : (i n : ℕ) → (i < n) ⊎ (n ≤ i)
lt_or_ge i n = grind arith

append_within : (xs ys vs ws : List ℕ) → length xs ≡ length ys → ((i : ℕ) → get_or xs i 0 ≤ get_or ys i 0) → ((i : ℕ) → get_or vs i 0 ≤ get_or ws i 0) → (i : ℕ) → get_or (xs ++ vs) i 0 ≤ get_or (ys ++ ws) i 0
append_within xs ys vs ws size front back i =
    elim (lt_or_ge i (length xs)) [
      | inl there ↦ omega (arith, front i, get_or-append xs vs 0 i there, get_or-append ys ws 0 i (omega arith))
      | inr past ↦
          let k : ℕ = i - length xs in
          let at_xs : i ≡ length xs + k = omega arith in
          let at_ys : i ≡ length ys + k = omega arith in
          omega (arith, back k, ap (λ j. get_or (xs ++ vs) j 0) at_xs, get_or-append-add xs vs k 0, ap (λ j. get_or (ys ++ ws) j 0) at_ys, get_or-append-add ys ws k 0)
    ]

-- rows within rows
pub first_rows-within : (f g : ℕ → List ℕ) (size rows : ℕ) → ((row : ℕ) → length (f row) ≡ size) → ((row : ℕ) → length (g row) ≡ size) → ((row i : ℕ) → get_or (f row) i 0 ≤ get_or (g row) i 0) → (i : ℕ)
    → get_or (first_rows f rows) i 0 ≤ get_or (first_rows g rows) i 0
first_rows-within f g size zero size_f size_g within i = omega arith
first_rows-within f g size (suc rows) size_f size_g within i =
    append_within (first_rows f rows) (first_rows g rows) (f rows) (g rows) (length-first_rows f size rows (λ r _. size_f r) ∙ sym (length-first_rows g size rows (λ r _. size_g r)))
    (first_rows-within f g size rows size_f size_g within) (within rows) i

start_zeros : (lens : List ℕ) → start_of lens 0 ≡ replicate (length lens) 0
start_zeros [] = refl
start_zeros (len ∷ lens) = in_head len lens 0 (omega arith) ∙ ap (λ (xs : List ℕ). 0 ∷ xs) (start_zeros lens)

-- the row is past the first processes, by what is left
pub record IsPast (lens : List ℕ) (row count left : ℕ) : Type 0 where
  pub start : start_of lens row ≡ replicate count 0 ++ start_of (drop count lens) left
  pub few : count ≤ length lens

pub past_none : (lens : List ℕ) (row : ℕ) → IsPast lens row 0 row
past_none lens row = record { start = refl; few = omega arith }

-- the start of a row among the events of the first process that is left
start_here : (lens : List ℕ) (count left : ℕ) → count < length lens → left ≤ get_or lens count 0
    → start_of (drop count lens) left ≡ set (replicate (length lens - count) 0) 0 left
start_here [] count left there within = absurd (omega arith)
start_here (len ∷ lens) zero left there within =
    let whole : suc (length lens) ≡ length (len ∷ lens) - 0 = omega arith in
    in_head len lens left within ∙ ap (λ (xs : List ℕ). left ∷ xs) (start_zeros lens) ∙ ap (λ (n : ℕ). set (replicate n 0) 0 left) whole
start_here (len ∷ lens) (suc count) left there within =
    let rest : length lens - count ≡ length (len ∷ lens) - suc count = omega arith in
    start_here lens count left (omega (arith, there)) within ∙ ap (λ (n : ℕ). set (replicate n 0) 0 left) rest

-- what is left is past one process more
pub past_more : (lens : List ℕ) (row count left : ℕ) → IsPast lens row count left → count < length lens → get_or lens count 0 < left
    → IsPast lens row (count + 1) (left - get_or lens count 0)
past_more lens row count left past there over = record {
  start = past.start ∙ ap (λ (xs : List ℕ). replicate count 0 ++ xs) (next lens count left there over) ∙ one_more count _;
  few = omega (arith, there);
}
  where
    next : (lens : List ℕ) (count left : ℕ) → count < length lens → get_or lens count 0 < left
        → start_of (drop count lens) left ≡ 0 ∷ start_of (drop (count + 1) lens) (left - get_or lens count 0)
    next [] count left there over = absurd (omega arith)
    next (len ∷ lens) zero left there over = in_tail len lens left (left - len) (omega arith) (omega arith)
    next (len ∷ lens) (suc count) left there over =
        let more : suc (count + 1) ≡ suc count + 1 = omega arith in
        next lens count left (omega (arith, there)) over ∙ ap (λ (n : ℕ). 0 ∷ start_of (drop n (len ∷ lens)) (left - get_or lens count 0)) more

    one_more : (n : ℕ) (xs : List ℕ) → replicate n 0 ++ 0 ∷ xs ≡ replicate (n + 1) 0 ++ xs
    one_more zero xs = refl
    one_more (suc n) xs =
        let more : suc (n + 1) ≡ suc n + 1 = omega arith in
        ap (λ (ys : List ℕ). 0 ∷ ys) (one_more n xs) ∙ ap (λ (m : ℕ). replicate m 0 ++ xs) more

-- the zeros of a row, with what is left put in its place
pub start_put : (before lens zeros : List ℕ) (row count left : ℕ) → IsPast lens row count left → count < length lens → left ≤ get_or lens count 0
    → zeros ≡ replicate (length lens) 0 → set (before ++ zeros) (length before + count) left ≡ before ++ start_of lens row
start_put before lens zeros row count left past there within none =
    ap (λ zs. set (before ++ zs) (length before + count) left) none ∙ set_behind before (replicate (length lens) 0) count left
    ∙ ap (λ (xs : List ℕ). before ++ xs)
    (split (length lens) count left (omega (arith, there)) ∙ ap (λ (xs : List ℕ). replicate count 0 ++ xs) (sym (start_here lens count left there within)) ∙ sym past.start)
  where
    set_behind : (xs ys : List ℕ) (i v : ℕ) → set (xs ++ ys) (length xs + i) v ≡ xs ++ set ys i v
    set_behind [] ys i v = ap (λ (n : ℕ). set ys n v) (omega arith)
    set_behind (x ∷ xs) ys i v =
        let more : length (x ∷ xs) + i ≡ suc (length xs + i) = omega arith in
        ap (λ (n : ℕ). set (x ∷ (xs ++ ys)) n v) more ∙ ap (λ (zs : List ℕ). x ∷ zs) (set_behind xs ys i v)

    split : (n count v : ℕ) → count ≤ n → set (replicate n 0) count v ≡ replicate count 0 ++ set (replicate (n - count) 0) 0 v
    split n zero v le = ap (λ (m : ℕ). set (replicate m 0) 0 v) (omega arith)
    split zero (suc count) v le = absurd (omega arith)
    split (suc n) (suc count) v le =
        let rest : n - count ≡ suc n - suc count = omega arith in
        ap (λ (xs : List ℕ). 0 ∷ xs) (split n count v (omega arith)) ∙ ap (λ (m : ℕ). 0 ∷ (replicate count 0 ++ set (replicate m 0) 0 v)) rest

-- a row is among the events of some process
pub past_whole : (lens : List ℕ) (row left : ℕ) → IsPast lens row (length lens) left → (xs : List ℕ) → xs ≡ replicate (length lens) 0 → xs ≡ start_of lens row
past_whole lens row left past xs none = none ∙ sym (append-nil (replicate (length lens) 0)) ∙ ap (λ (ys : List ℕ). replicate (length lens) 0 ++ start_of ys left) (sym (gone lens)) ∙ sym past.start
  where
    gone : (xs : List ℕ) → drop (length xs) xs ≡ []
    gone [] = refl
    gone (x ∷ xs) = gone xs

-- the first of some zeros
pub zeros_of : (most n : ℕ) → n ≤ most → take {A = ℕ} n (replicate most 0) ≡ replicate n 0
zeros_of most zero few = refl
zeros_of zero (suc n) few = absurd (omega arith)
zeros_of (suc most) (suc n) few = ap (λ (xs : List ℕ). 0 ∷ xs) (zeros_of most n (omega arith))
