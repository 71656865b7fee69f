-- Words of a list, piece behind piece.
use Rattle.std.proofs.Common.{◌≡◌, ℕ, ◌+◌, ◌-◌, ◌<◌, ◌≤◌, inl, inr, List, ◌++◌, length, get_or, take, drop, slice_range, arith, sym, ap, ◌∙◌, length-append}
use Rattle.std.proofs.lemmas.List.{get_or-append-add, get_or-take, get_or-drop, length-take, length-take-le, length-drop, get_or_past, ext_get_or, take_all, append-nil}
use Rattle.std.proofs.Math.ListN.{get_or-append}
use Rattle.pull_system.proofs.Climbing.{lt_or_le}

pub length-slice_range : (xs : List ℕ) (first last : ℕ) → last ≤ length xs → length (slice_range xs first last) ≡ last - first
length-slice_range xs first last there = length-take-le (last - first) (drop first xs) (omega (arith, there, length-drop first xs))

pub get_or-slice_range : (xs : List ℕ) (first last i : ℕ) → i < last - first → get_or (slice_range xs first last) i 0 ≡ get_or xs (first + i) 0
get_or-slice_range xs first last i less = get_or-take (last - first) (drop first xs) i 0 less ∙ get_or-drop first xs i 0

-- a piece behind a range of a list
pub range_next : (xs piece : List ℕ) (first last size : ℕ) → first ≤ last → last + size ≤ length xs → length piece ≡ size → ((i : ℕ) → i < length piece → get_or piece i 0 ≡ get_or xs (last + i) 0) → slice_range xs first last ++ piece ≡ slice_range xs first (last + size)
range_next xs piece first last size from_first there width here =
    let front : List ℕ = slice_range xs first last in
    let front_size : length front ≡ last - first = length-slice_range xs first last (omega arith) in
    let whole : length (slice_range xs first (last + size)) ≡ last + size - first = length-slice_range xs first (last + size) there in
    ext_get_or 0 (front ++ piece) (slice_range xs first (last + size)) (length-append front piece ∙ omega (arith, front_size, width, whole)) (λ i below.
    let less : i < last + size - first = omega (arith, below, length-append front piece, front_size, width) in
    elim (lt_or_le i (length front)) [
      | inl before ↦ get_or-append front piece 0 i before ∙ get_or-slice_range xs first last i (omega (arith, before, front_size)) ∙ sym (get_or-slice_range xs first (last + size) i less)
      | inr past ↦
          let k : ℕ = i - length front in
          let at : i ≡ length front + k = omega (arith, past) in
          let back : last + k ≡ first + i = omega (arith, past, front_size, from_first) in
          ap (λ (n : ℕ). get_or (front ++ piece) n 0) at
          ∙ get_or-append-add front piece k 0
          ∙ here k (omega (arith, less, width, front_size, from_first))
          ∙ ap (λ (n : ℕ). get_or xs n 0) back
          ∙ sym (get_or-slice_range xs first (last + size) i less)
    ])

pub range_none : (xs start : List ℕ) (first last : ℕ) → last ≡ first → start ≡ start ++ slice_range xs first last
range_none xs start first last same =
    sym (ap (λ n. start ++ take n (drop first xs)) (let e : last - first ≡ 0 = omega arith in e) ∙ append-nil start)

pub range_all : (xs : List ℕ) (first last : ℕ) → first ≡ 0 → length xs ≤ last → slice_range xs first last ≡ xs
range_all xs first last none whole = ap (λ n. slice_range xs n last) none ∙ take_all (last - 0) xs (omega arith)

-- a piece of a list, number by number
pub range_at : (xs piece : List ℕ) (first last : ℕ) → piece ≡ slice_range xs first last → (i : ℕ) → i < length piece → get_or piece i 0 ≡ get_or xs (first + i) 0
range_at xs piece first last same i below =
    ap (λ ys. get_or ys i 0) same ∙ get_or-take (last - first) (drop first xs) i 0 (omega (arith, below, ap length same, length-take (last - first) (drop first xs))) ∙ get_or-drop first xs i 0

-- each number of a piece of a list is as small as all of them are
pub piece_below : (xs : List ℕ) (first last most : ℕ) → 0 < most → ((i : ℕ) → get_or xs i 0 < most) → (i : ℕ) → get_or (slice_range xs first last) i 0 < most
piece_below xs first last most some small i = elim (lt_or_le (last - first) (i + 1)) [
  | inr inside ↦ omega (arith, get_or-slice_range xs first last i (omega (arith, inside)), small (first + i))
  | inl past ↦ omega (arith, some, get_or_past (slice_range xs first last) i 0 (omega (arith, past, length-take (last - first) (drop first xs))))
]
