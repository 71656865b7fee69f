-- One byte more of a text that is gone over word by word.
use Rattle.std.proofs.Common.{◌≡◌, ℕ, zero, suc, ◌+◌, ◌-◌, ◌<◌, ◌≤◌, ◌==◌, Bool, true, false, List, [], ◌∷◌, ◌++◌, length, take, drop, get_or, slice_range, sym, ap, ◌∙◌, arith}
use Rattle.std.proofs.Math.Seq.{take-suc}
use Rattle.std.proofs.lemmas.List.{drop_more, get_or-drop, length-drop, append_assoc}
use Rattle.pota_names.specs.Names.{is_name_byte}
use Rattle.question_instances.specs.Instances.{Renaming, is_none, next_after, put_word, scanned}

-- the bytes of the word so far, with one more
word_more : (text : List ℕ) (from i d : ℕ) → from ≤ i → i < length text → slice_range text from (i + 1) ≡ slice_range text from i ++ get_or text i d ∷ []
word_more text from i d low high =
    let e : i + 1 - from ≡ suc (i - from) = omega (arith, low) in
    let f : from + (i - from) ≡ i = omega (arith, low) in
    let h : i - from < length (drop from text) = omega (arith, low, high, length-drop from text) in
    ap (λ k. take k (drop from text)) e ∙ take-suc (drop from text) (i - from) d h
    ∙ ap (λ b. slice_range text from i ++ b ∷ []) (get_or-drop from text (i - from) d ∙ ap (λ k. get_or text k d) f)

no_word_by : (xs : List ℕ) (from i k : ℕ) → i ≡ from + k → k < length xs → is_none (take k xs) ≡ (from == i)
no_word_by xs from i zero e h = grind arith
no_word_by [] from i (suc k) e h = absurd (omega (arith, h))
no_word_by (x ∷ xs) from i (suc k) e h = grind arith

-- whether no byte of a word was passed over
pub no_word : (text : List ℕ) (from i : ℕ) → from ≤ i → i < length text → is_none (slice_range text from i) ≡ (from == i)
no_word text from i low high = no_word_by (drop from text) from i (i - from) (omega (arith, low)) (omega (arith, low, high, length-drop from text))

-- at a byte of a word
pub on_word : (names : List Renaming) (after : Bool) (text : List ℕ) (from i d : ℕ) → from ≤ i → i < length text → is_name_byte (get_or text i d) ≡ true
    → scanned names after (slice_range text from i) (drop i text) ≡ scanned names after (slice_range text from (i + 1)) (drop (i + 1) text)
on_word names after text from i d low high is =
    ap (scanned names after (slice_range text from i)) (drop_more text i d high) ∙ rw is (ap (λ w. scanned names after w (drop (i + 1) text)) (sym (word_more text from i d low high)))

-- at another byte
pub on_other : (names : List Renaming) (after : Bool) (text : List ℕ) (from i d : ℕ) → from ≤ i → i < length text → is_name_byte (get_or text i d) ≡ false
    → scanned names after (slice_range text from i) (drop i text)
    ≡ put_word after names (slice_range text from i) ++ get_or text i d ∷ scanned names (next_after after (from == i) (get_or text i d)) [] (drop (i + 1) text)
on_other names after text from i d low high is =
    ap (scanned names after (slice_range text from i)) (drop_more text i d high) ∙ rw is (
    ap (λ e. put_word after names (slice_range text from i) ++ get_or text i d ∷ scanned names (next_after after e (get_or text i d)) [] (drop (i + 1) text)) (no_word text from i low high))

-- a word and a byte behind what was written
pub glued : (out word rest : List ℕ) (b : ℕ) → out ++ (word ++ b ∷ rest) ≡ out ++ word ++ b ∷ [] ++ rest
glued out word rest b = sym (append_assoc (out ++ word) (b ∷ []) rest ∙ append_assoc out word (b ∷ rest))

-- no byte of the next word was passed over
pub none_yet : (text : List ℕ) (at : ℕ) → slice_range text at at ≡ []
none_yet text at = let e : at - at ≡ 0 = omega arith in ap (λ k. take k (drop at text)) e
