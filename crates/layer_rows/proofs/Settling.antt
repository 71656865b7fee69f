-- Rows that are raised to their least closed vectors, one after the other.
use Rattle.std.proofs.Common.{◌≡◌, ℕ, zero, suc, ◌+◌, ◌-◌, ◌*◌, ◌<◌, ◌≤◌, min, max, List, length, get_or, take, drop, set, sum, sym, ap, ◌∙◌, subst, arith, inl, inr, below_more}
use Rattle.std.proofs.Math.Nat.{mul-le-mul_right}
use Rattle.std.proofs.lemmas.Bool.{cases_lt, cases_eq}
use Rattle.std.proofs.lemmas.List.{ext_get_or, get_or-take, get_or-drop, length-take, length-drop, length-set, get_or-set_same, get_or-set_other}
use Rattle.pull_system.specs.System.{SystemView, IsLeastFrom}
use Rattle.pull_system.specs.Rows.{IsLeast, AreLeastRows, start_of, starts, row_at}
use Rattle.pull_system.proofs.Starts.{length-start_of, length_starts, starts-place}

-- ---- a row and its words

pub row_ends : (n rows row : ℕ) → row < rows → row * n + n ≤ rows * n
row_ends n rows row lt =
    let up : (row + 1) * n ≤ rows * n = mul-le-mul_right n (omega arith) in
    omega arith

pub row_entry : (lens words : List ℕ) (row i : ℕ) → i < length lens → get_or (row_at lens words row) i 0 ≡ get_or words (row * length lens + i) 0
row_entry lens words row i lt =
    let n : ℕ = length lens in
    let first : row * n + 0 ≡ row * n = omega arith in
    get_or-take ((row + 1) * n + 0 - (row * n + 0)) (drop (row * n + 0) words) i 0 (omega (arith, lt))
    ∙ get_or-drop (row * n + 0) words i 0 ∙ ap (λ (k : ℕ). get_or words (k + i) 0) first

pub row_is : (lens words : List ℕ) (row : ℕ) (v : List ℕ) → length words ≡ (sum lens + 1) * length lens → row ≤ sum lens → length v ≡ length lens
    → ((i : ℕ) → i < length lens → get_or words (row * length lens + i) 0 ≡ get_or v i 0) → row_at lens words row ≡ v
row_is lens words row v size le width each =
    let n : ℕ = length lens in
    let ends = row_ends n (sum lens + 1) row (omega arith) in
    let len : length (row_at lens words row) ≡ n =
    length-take ((row + 1) * n + 0 - (row * n + 0)) (drop (row * n + 0) words) ∙ omega (arith, length-drop (row * n + 0) words, ends) in
    ext_get_or 0 (row_at lens words row) v (omega (arith, len)) (λ i lt. row_entry lens words row i (omega (arith, lt, len)) ∙ each i (omega (arith, lt, len)))

places_apart : (n row other p i : ℕ) → (other ≡ row → ⊥) → p < n → i < n → row * n + p ≡ other * n + i → ⊥
places_apart n row other p i ne lt less same = elim (cases_lt row other) [
  | inl before ↦ let ends = row_ends n other row before in omega arith
  | inr after ↦ elim (cases_eq other row) [
    | inl eq ↦ ne eq
    | inr apart ↦ let ends = row_ends n row other (omega arith) in omega arith
  ]
]

-- ---- one row

-- the first q words of the row are those of the vector, all others are as they were
pub record RaisedRow (n row : ℕ) (old v : List ℕ) (q : ℕ) (now : List ℕ) : Type 0 where
  pub size : length now ≡ length old
  pub below : (p : ℕ) → p < q → get_or now (row * n + p) 0 ≡ get_or v p 0
  pub others : (place : ℕ) → ((p : ℕ) → p < q → place ≡ row * n + p → ⊥) → get_or now place 0 ≡ get_or old place 0

pub raised_more : (n row : ℕ) (old v now new : List ℕ) (q value : ℕ) → RaisedRow n row old v q now → row * n + q < length now → value ≡ get_or v q 0
    → get_or old (row * n + q) 0 ≤ value → new ≡ set now (row * n + q) (max (get_or now (row * n + q) 0) value) → RaisedRow n row old v (q + 1) new
raised_more n row old v now new q value h lt is le made =
    let same : get_or now (row * n + q) 0 ≡ get_or old (row * n + q) 0 = h.others (row * n + q) (λ p less e. omega (arith, e, less)) in
    let put : new ≡ set now (row * n + q) value = made ∙ ap (set now (row * n + q)) (omega (arith, same, le)) in
    subst (RaisedRow n row old v (q + 1)) (sym put) (record {
      size = length-set now (row * n + q) value ∙ h.size;
      below = below_more (λ p. get_or (set now (row * n + q) value) (row * n + p) 0 ≡ get_or v p 0) q
          (λ p less. get_or-set_other now (row * n + q) (row * n + p) value 0 (λ e. absurd (omega (arith, e, less))) ∙ h.below p less)
          (get_or-set_same now (row * n + q) value 0 lt ∙ is);
      others = λ place apart.
          get_or-set_other now (row * n + q) place value 0 (λ e. apart q (omega arith) e) ∙ h.others place (λ p less. apart p (omega (arith, less)));
    })

-- where the row stood at its start, no word of it is above the vector's
pub start_below : (system : SystemView) (row : ℕ) (words v : List ℕ) (q : ℕ) → row_at system.lens words row ≡ start_of system.lens row → IsLeastFrom system (start_of system.lens row) v
    → q < length system.lens → get_or words (row * length system.lens + q) 0 ≤ get_or v q 0
start_below system row words v q start least lt =
    omega (arith, row_entry system.lens words row q lt, ap (λ (xs : List ℕ). get_or xs q 0) start, least.closed.above.each q)

pub raised_least : (system : SystemView) (row : ℕ) (old v now : List ℕ) (q : ℕ) → RaisedRow (length system.lens) row old v q now → length old ≡ (sum system.lens + 1) * length system.lens
    → row ≤ sum system.lens → length system.lens ≤ q → IsLeastFrom system (start_of system.lens row) v → IsLeast system row (row_at system.lens now row)
raised_least system row old v now q h size le all least =
    subst (IsLeastFrom system (start_of system.lens row)) (sym (row_is system.lens now row v (h.size ∙ size) le least.closed.vector.size (λ i lt. h.below i (omega (arith, lt))))) least

pub raised_others : (lens : List ℕ) (row other : ℕ) (old v now : List ℕ) (q : ℕ) → RaisedRow (length lens) row old v q now → length old ≡ (sum lens + 1) * length lens
    → q ≤ length lens → other ≤ sum lens → (other ≡ row → ⊥) → row_at lens now other ≡ row_at lens old other
raised_others lens row other old v now q h size few le ne =
    let n : ℕ = length lens in
    let ends = row_ends n (sum lens + 1) other (omega arith) in
    let len : length (row_at lens old other) ≡ n =
    length-take ((other + 1) * n + 0 - (other * n + 0)) (drop (other * n + 0) old) ∙ omega (arith, length-drop (other * n + 0) old, ends, size) in
    row_is lens now other (row_at lens old other) (h.size ∙ size) le len (λ i lt.
    h.others (other * n + i) (λ p less e. places_apart n row other p i ne (omega (arith, less, few)) lt (sym e)) ∙ sym (row_entry lens old other i lt))

-- ---- all rows

-- the rows before this one are the least, the others are at their starts
pub record SettledBefore (system : SystemView) (row : ℕ) (words : List ℕ) : Type 0 where
  pub before : (r : ℕ) → r < row → r ≤ sum system.lens → IsLeast system r (row_at system.lens words r)
  pub after : (r : ℕ) → row ≤ r → r ≤ sum system.lens → row_at system.lens words r ≡ start_of system.lens r

pub settled_none : (system : SystemView) (words : List ℕ) → words ≡ starts system.lens → SettledBefore system 0 words
settled_none system words is = subst (SettledBefore system 0) (sym is) (record {
  before = λ r lt _. absurd (omega arith);
  after = λ r _ le. row_is system.lens (starts system.lens) r (start_of system.lens r) (length_starts system.lens) le (length-start_of system.lens r)
      (λ i lt. starts-place system.lens r i le lt);
})

pub settled_more : (system : SystemView) (row : ℕ) (old new : List ℕ) → SettledBefore system row old → IsLeast system row (row_at system.lens new row)
    → ((other : ℕ) → other ≤ sum system.lens → (other ≡ row → ⊥) → row_at system.lens new other ≡ row_at system.lens old other) → SettledBefore system (row + 1) new
settled_more system row old new h least others = record {
  before = λ r lt le. elim (cases_eq r row) [
    | inl eq ↦ subst (λ (k : ℕ). IsLeast system k (row_at system.lens new k)) (sym eq) least
    | inr ne ↦ subst (IsLeast system r) (sym (others r le ne)) (h.before r (omega arith) le)
  ];
  after = λ r le there. others r there (λ e. absurd (omega arith)) ∙ h.after r (omega arith) there;
}

pub settled_all : (system : SystemView) (row : ℕ) (words : List ℕ) → SettledBefore system row words → sum system.lens < row → AreLeastRows system words
settled_all system row words h all = record { each = λ r le. h.before r (omega arith) le }
