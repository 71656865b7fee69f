-- How a text is broken byte by byte, and that broken lines are short.
use Rattle.std.proofs.Common.{◌≡◌, ℕ, ◌+◌, ◌<◌, ◌≤◌, true, false, List, [], ◌∷◌, ◌++◌, refl, sym, ap, ◌∙◌, append_assoc, arith, inl, inr}
use Rattle.std.specs.Prelude.{◌==◌, nat_le}
use Rattle.std.proofs.lemmas.Bool.{cases_Bool, eqb-true}
use Rattle.view_text.specs.Folding.{broken, breaks_at, folded, AreShort}

is_no_feed : (b : ℕ) → (b ≡ 10 → ⊥) → (b == 10) ≡ false
is_no_feed b ne = elim (cases_Bool (b == 10)) [
  | inl e ↦ absurd (ne (eqb-true b 10 e))
  | inr other ↦ other
]

pub folded_feed : (column b : ℕ) (bs : List ℕ) → b ≡ 10 → folded column (b ∷ bs) ≡ b ∷ folded 0 bs
unfolding folded
folded_feed column b bs e = rw e refl

pub folded_break : (column b : ℕ) (bs : List ℕ) → (b ≡ 10 → ⊥) → breaks_at column b bs ≡ true → folded column (b ∷ bs) ≡ broken ++ folded 8 bs
unfolding folded
folded_break column b bs ne gap = rw (is_no_feed b ne, gap) refl

pub folded_full : (column b : ℕ) (bs : List ℕ) → (b ≡ 10 → ⊥) → breaks_at column b bs ≡ false → 100 ≤ column → folded column (b ∷ bs) ≡ broken ++ b ∷ folded 9 bs
unfolding folded
folded_full column b bs ne close full = rw (is_no_feed b ne, close, is_full column full) refl
  where
    is_full : (n : ℕ) → 100 ≤ n → nat_le 100 n ≡ true
    is_full n le = grind arith

pub folded_more : (column b : ℕ) (bs : List ℕ) → (b ≡ 10 → ⊥) → breaks_at column b bs ≡ false → column < 100 → folded column (b ∷ bs) ≡ b ∷ folded (column + 1) bs
unfolding folded
folded_more column b bs ne close room = rw (is_no_feed b ne, close, is_roomy column room) refl
  where
    is_roomy : (n : ℕ) → n < 100 → nat_le 100 n ≡ false
    is_roomy n lt = grind arith

-- bytes that were put, and then the rest
pub one_more : (old new b rest all : List ℕ) → new ≡ old ++ b → all ≡ b ++ rest → new ++ rest ≡ old ++ all
one_more old new b rest all put split = ap (λ (t : List ℕ). t ++ rest) put ∙ append_assoc old b rest ∙ ap (λ (t : List ℕ). old ++ t) (sym split)

pub folded_none : (column : ℕ) → folded column [] ≡ []
unfolding folded
folded_none column = refl

not_full : (column : ℕ) → nat_le 100 column ≡ false → column < 100
not_full column h = grind arith

pub folded_short : (column : ℕ) (bytes : List ℕ) → column ≤ 100 → AreShort column (folded column bytes)
unfolding folded AreShort
folded_short column [] h = h
folded_short column (b ∷ bs) h =
    elim (cases_Bool (b == 10)) [
      | inl feed ↦ rw feed (h, folded_short 0 bs (omega arith))
      | inr other ↦ elim (cases_Bool (breaks_at column b bs)) [
        | inl gap ↦ rw (other, gap) (h, folded_short 8 bs (omega arith))
        | inr close ↦ elim (cases_Bool (nat_le 100 column)) [
          | inl full ↦ rw (other, close, full, other) (h, folded_short 9 bs (omega arith))
          | inr room ↦ rw (other, close, room, other) (folded_short (column + 1) bs (let lt = not_full column room in omega arith))
        ]
      ]
    ]
