-- A front of some bytes that was copied from a source, or into a sink.
use Rattle.std.proofs.Common.{◌≡◌, ℕ, ◌+◌, ◌<◌, ◌≤◌, min, List, [], ◌++◌, length, take, drop, sym, ap, ◌∙◌, arith, length-append, length-drop}
use Rattle.std.proofs.lemmas.List.{take-append-drop, drop-drop, take_at, nil_from_length, length-take-le}

-- the front of what was copied to is the front that was copied
pub front_copied : (xs into : List ℕ) (n : ℕ) → n ≤ length xs → take n (take n xs ++ drop n into) ≡ take n xs
front_copied xs into n h = take_at (take n xs) (drop n into) n (length-take-le n xs h)

-- what a source gives, and that it gives nothing to some room only at its end
pub read_front : (all : List ℕ) (at most n : ℕ) (bytes from into new : List ℕ) → bytes ≡ drop at all → from ≡ drop at all
    → n ≡ min most (min (length from) (length into)) → new ≡ take n from ++ drop n into → 1 ≤ most
    → (bytes ≡ take n new ++ drop (at + n) all) × (n ≡ 0 → 0 < length new → drop (at + n) all ≡ [])
read_front all at most n bytes from into new whole same count copied some =
    let fits : n ≤ length from = omega arith in
    let front : take n new ≡ take n from = ap (take n) copied ∙ front_copied from into n fits in
    let rest : drop n from ≡ drop (at + n) all = ap (drop n) same ∙ drop-drop n at all in (
      whole ∙ sym same ∙ sym (take-append-drop n from) ∙ ap (λ (ys : List ℕ). take n from ++ ys) rest
          ∙ ap (λ (ys : List ℕ). ys ++ drop (at + n) all) (sym front),
      λ none room.
          let len : length new ≡ length (take n from) + length (drop n into) =
          ap length copied ∙ length-append (take n from) (drop n into) in
          let ended : length (drop n from) ≡ 0 =
          omega (arith, len, length-take-le n from fits, length-drop n into, length-drop n from) in
          sym rest ∙ nil_from_length (drop n from) ended,
    )
