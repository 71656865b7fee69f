-- The lines on what is left out, one by one.
use Rattle.std.proofs.Common.{◌≡◌, ℕ, ◌+◌, ◌<◌, ◌≤◌, ◌⊎◌, List, [], ◌∷◌, ◌++◌, length, drop, refl, sym, ap, ap₂, ◌∙◌, inl, inr, arith, append_assoc, append-nil, add-one, drop-cons}
use Rattle.std.specs.Prelude.{min}
use Rattle.std.specs.List.{slice_index_or}
use Rattle.std.proofs.lemmas.Bool.{cases_lt}
use Rattle.std.proofs.lemmas.List.{drop_all}
use Rattle.one_log.specs.LeftOut.{left_out_line, left_out_lines}

-- ---- one line

pub line_so : (out one name two digits a b c d e : List ℕ) → a ≡ out ++ one → b ≡ a ++ name → c ≡ b ++ two → d ≡ c ++ digits → e ≡ d ++ 10 ∷ []
    → e ≡ out ++ (one ++ (name ++ (two ++ (digits ++ 10 ∷ []))))
line_so out one name two digits a b c d e a_is b_is c_is d_is e_is =
    e_is ∙ ap (λ (xs : List ℕ). xs ++ 10 ∷ []) (d_is ∙ ap (λ (xs : List ℕ). xs ++ digits) (c_is ∙ ap (λ (xs : List ℕ). xs ++ two) (b_is ∙ ap (λ (xs : List ℕ). xs ++ name) a_is)))
    ∙ append_assoc (((out ++ one) ++ name) ++ two) digits (10 ∷ [])
    ∙ append_assoc ((out ++ one) ++ name) two (digits ++ 10 ∷ [])
    ∙ append_assoc (out ++ one) name (two ++ (digits ++ 10 ∷ []))
    ∙ append_assoc out one (name ++ (two ++ (digits ++ 10 ∷ [])))

-- ---- all lines

no_counts : (names : List (List ℕ)) → left_out_lines names [] ≡ []
no_counts [] = refl
no_counts (n ∷ names) = refl

done : (names : List (List ℕ)) (counts : List ℕ) (i : ℕ) → (length names ≤ i) ⊎ (length counts ≤ i) → left_out_lines (drop i names) (drop i counts) ≡ []
done names counts i past = elim past [
  | inl h ↦ ap (λ (xs : List (List ℕ)). left_out_lines xs (drop i counts)) (drop_all i names h)
  | inr h ↦ ap (left_out_lines (drop i names)) (drop_all i counts h) ∙ no_counts (drop i names)
]

past_one : (n m i : ℕ) → min n m ≤ i → (n ≤ i) ⊎ (m ≤ i)
past_one n m i past = elim (cases_lt i n) [ inl lt ↦ inr (omega (arith, lt, past)) | inr le ↦ inl le ]

pub lines_there : (names : List (List ℕ)) (counts : List ℕ) (i : ℕ) (out all : List ℕ) → min (length names) (length counts) ≤ i
    → out ++ left_out_lines (drop i names) (drop i counts) ≡ all → out ≡ all
lines_there names counts i out all past so_far =
    sym (append-nil out) ∙ ap (λ (xs : List ℕ). out ++ xs) (sym (done names counts i (past_one (length names) (length counts) i past))) ∙ so_far

pub line_more : (names : List (List ℕ)) (counts : List ℕ) (i : ℕ) (out all name new : List ℕ) → i < min (length names) (length counts)
    → name ≡ slice_index_or names i name → new ≡ out ++ left_out_line name (slice_index_or counts i 0)
    → out ++ left_out_lines (drop i names) (drop i counts) ≡ all → new ++ left_out_lines (drop (i + 1) names) (drop (i + 1) counts) ≡ all
line_more names counts i out all name new within is new_is so_far =
    let count : ℕ = slice_index_or counts i 0 in
    let rest : List ℕ = left_out_lines (drop (i + 1) names) (drop (i + 1) counts) in
    let names_are : drop i names ≡ name ∷ drop (i + 1) names = drop-cons names i name (omega (arith, within)) ∙ ap₂ (λ (x : List ℕ) (n : ℕ). x ∷ drop n names) (sym is) (sym (add-one i)) in
    let counts_are : drop i counts ≡ count ∷ drop (i + 1) counts = drop-cons counts i 0 (omega (arith, within)) ∙ ap (λ (n : ℕ). slice_index_or counts i 0 ∷ drop n counts) (sym (add-one i)) in
    ap (λ (xs : List ℕ). xs ++ rest) new_is
    ∙ append_assoc out (left_out_line name count) rest
    ∙ ap (λ (xs : List ℕ). out ++ xs) (sym (ap₂ (λ (xs : List (List ℕ)) (ys : List ℕ). left_out_lines xs ys) names_are counts_are))
    ∙ so_far
