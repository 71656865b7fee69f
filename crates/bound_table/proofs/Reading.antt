-- The words of rows, read piece by piece.
use Rattle.std.proofs.Common.{◌≡◌, ◌≢◌, ℕ, ◌+◌, ◌-◌, ◌<◌, ◌≤◌, inl, inr, List, ◌++◌, length, get_or, set, take, drop, slice_range, arith, sym, ap, ◌∙◌, get_or-set_same, length-append, append_assoc}
use Rattle.std.proofs.lemmas.List.{get_or-set_other, get_or-append-add, get_or-take, get_or-drop, length-take, length-take-le, length-drop, ext_get_or, take_all, append-nil}
use Rattle.std.proofs.Math.ListN.{get_or-append}
use Rattle.pull_system.proofs.Climbing.{lt_or_le}
use Rattle.bound_table.proofs.Seeing.{put_next}

-- the other words are as they were
pub word_kept : (word x : ℕ) (old new : List ℕ) → new ≡ set old word x → (k : ℕ) → k ≢ word → get_or new k 0 ≡ get_or old k 0
word_kept word x old new same k apart = ap (λ xs. get_or xs k 0) same ∙ get_or-set_other old word k x 0 apart

-- one word more of a piece
pub piece_next : (first i x : ℕ) (old new piece now : List ℕ) → first + i < length old → i < length piece → new ≡ set old (first + i) x → now ≡ set piece i x
    → ((k : ℕ) → k < i → get_or piece k 0 ≡ get_or old (first + k) 0) → (k : ℕ) → k < i + 1 → get_or now k 0 ≡ get_or new (first + k) 0
piece_next first i x old new piece now there room same put before =
    put_next (λ k n. n ≡ get_or new (first + k) 0) piece now i x room put (λ k below. before k below ∙ sym (word_kept (first + i) x old new same (first + k) (λ e. omega (arith, e, below))))
    (sym (ap (λ xs. get_or xs (first + i) 0) same ∙ get_or-set_same old (first + i) x 0 there))

pub length-slice_range : (xs : List ℕ) (first last : ℕ) → last ≤ length xs → length (slice_range xs first last) ≡ last - first
length-slice_range xs first last there = length-take-le (last - first) (drop first xs) (omega (arith, there, length-drop first xs))

pub get_or-slice_range : (xs : List ℕ) (first last i : ℕ) → i < last - first → get_or (slice_range xs first last) i 0 ≡ get_or xs (first + i) 0
get_or-slice_range xs first last i less = get_or-take (last - first) (drop first xs) i 0 less ∙ get_or-drop first xs i 0

-- a piece behind a range of a list
pub range_next : (xs piece : List ℕ) (first last size : ℕ) → first ≤ last → last + size ≤ length xs → length piece ≡ size → ((i : ℕ) → i < length piece → get_or piece i 0 ≡ get_or xs (last + i) 0) → slice_range xs first last ++ piece ≡ slice_range xs first (last + size)
range_next xs piece first last size from_first there width here =
    let front : List ℕ = slice_range xs first last in
    let front_size : length front ≡ last - first = length-slice_range xs first last (omega arith) in
    let whole : length (slice_range xs first (last + size)) ≡ last + size - first = length-slice_range xs first (last + size) there in
    ext_get_or 0 (front ++ piece) (slice_range xs first (last + size)) (length-append front piece ∙ omega (arith, front_size, width, whole)) (λ i below.
    let less : i < last + size - first = omega (arith, below, length-append front piece, front_size, width) in
    elim (lt_or_le i (length front)) [
      | inl before ↦ get_or-append front piece 0 i before ∙ get_or-slice_range xs first last i (omega (arith, before, front_size)) ∙ sym (get_or-slice_range xs first (last + size) i less)
      | inr past ↦
          let k : ℕ = i - length front in
          let at : i ≡ length front + k = omega (arith, past) in
          let back : last + k ≡ first + i = omega (arith, past, front_size, from_first) in
          ap (λ (n : ℕ). get_or (front ++ piece) n 0) at
          ∙ get_or-append-add front piece k 0
          ∙ here k (omega (arith, less, width, front_size, from_first))
          ∙ ap (λ (n : ℕ). get_or xs n 0) back
          ∙ sym (get_or-slice_range xs first (last + size) i less)
    ])

-- a range whose words stayed
pub range_kept : (old new : List ℕ) (first last : ℕ) → length old ≡ length new → last ≤ length new → ((i : ℕ) → i < last → get_or new i 0 ≡ get_or old i 0) → slice_range old first last ≡ slice_range new first last
range_kept old new first last same there kept =
    let size : length (slice_range old first last) ≡ last - first = length-slice_range old first last (omega arith) in
    ext_get_or 0 (slice_range old first last) (slice_range new first last) (size ∙ sym (length-slice_range new first last there)) (λ i below.
    let less : i < last - first = omega (arith, below, size) in
    get_or-slice_range old first last i less ∙ sym (kept (first + i) (omega (arith, less))) ∙ sym (get_or-slice_range new first last i less))

-- a piece more, read behind what was read before
pub read_more : (first last size : ℕ) (old new start words piece now : List ℕ) → words ≡ start ++ slice_range old first last → first ≤ last → last + size ≤ length new → length old ≡ length new → ((i : ℕ) → i < last → get_or new i 0 ≡ get_or old i 0)
    → length piece ≡ size → ((i : ℕ) → i < length piece → get_or piece i 0 ≡ get_or new (last + i) 0) → now ≡ words ++ piece → now ≡ start ++ slice_range new first (last + size)
read_more first last size old new start words piece now read from_first there same kept width here more =
    more
    ∙ ap (λ xs. xs ++ piece) (read ∙ ap (λ xs. start ++ xs) (range_kept old new first last same (omega arith) kept))
    ∙ append_assoc start (slice_range new first last) piece
    ∙ ap (λ xs. start ++ xs) (range_next new piece first last size from_first there width here)

pub range_none : (xs start : List ℕ) (first last : ℕ) → last ≡ first → start ≡ start ++ slice_range xs first last
range_none xs start first last same =
    sym (ap (λ n. start ++ take n (drop first xs)) (let e : last - first ≡ 0 = omega arith in e) ∙ append-nil start)

pub range_all : (xs : List ℕ) (first last : ℕ) → first ≡ 0 → length xs ≤ last → slice_range xs first last ≡ xs
range_all xs first last none whole = ap (λ n. slice_range xs n last) none ∙ take_all (last - 0) xs (omega arith)

-- a piece of a list, number by number
pub range_at : (xs piece : List ℕ) (first last : ℕ) → piece ≡ slice_range xs first last → (i : ℕ) → i < length piece → get_or piece i 0 ≡ get_or xs (first + i) 0
range_at xs piece first last same i below =
    ap (λ ys. get_or ys i 0) same ∙ get_or-take (last - first) (drop first xs) i 0 (omega (arith, below, ap length same, length-take (last - first) (drop first xs))) ∙ get_or-drop first xs i 0
