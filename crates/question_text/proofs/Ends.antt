-- Where the words of a text end, with one byte more.
use Rattle.std.proofs.Common.{◌≡◌, ℕ, zero, suc, ◌≤◌, true, false, List, [], ◌∷◌, ◌++◌, length, take, get_or, sym, ap, refl, ◌∙◌, arith}
use Rattle.std.proofs.Math.Seq.{take-suc}
use Rattle.question_text.specs.Bytes.{is_blank, end_behind, end_of_words}

end-blank : (xs : List ℕ) (b : ℕ) → is_blank b ≡ true → end_of_words (xs ++ b ∷ []) ≡ end_of_words xs
end-blank [] b h = rw h refl
end-blank (x ∷ xs) b h = ap (end_behind x) (end-blank xs b h)

end-word : (xs : List ℕ) (b : ℕ) → is_blank b ≡ false → end_of_words (xs ++ b ∷ []) ≡ suc (length xs)
end-word [] b h = rw h refl
end-word (x ∷ xs) b h = ap (end_behind x) (end-word xs b h)

length_of_take : (xs : List ℕ) (k : ℕ) → k ≤ length xs → length (take k xs) ≡ k
length_of_take xs zero h = refl
length_of_take [] (suc k) h = absurd (omega (arith, h))
length_of_take (x ∷ xs) (suc k) h = ap suc (length_of_take xs k (omega (arith, h)))

-- the last one of these bytes is a blank
pub last_blank : (xs : List ℕ) (k j d : ℕ) → k ≡ suc j → k ≤ length xs → is_blank (get_or xs j d) ≡ true → end_of_words (take k xs) ≡ end_of_words (take j xs)
last_blank xs k j d is within h =
    ap (λ i. end_of_words (take i xs)) is ∙ ap end_of_words (take-suc xs j d (omega (arith, is, within))) ∙ end-blank (take j xs) (get_or xs j d) h

-- it is none
pub last_word : (xs : List ℕ) (k j d : ℕ) → k ≡ suc j → k ≤ length xs → is_blank (get_or xs j d) ≡ false → end_of_words (take k xs) ≡ k
last_word xs k j d is within h =
    ap (λ i. end_of_words (take i xs)) is ∙ ap end_of_words (take-suc xs j d (omega (arith, is, within))) ∙ end-word (take j xs) (get_or xs j d) h
    ∙ ap suc (length_of_take xs j (omega (arith, is, within))) ∙ sym is
