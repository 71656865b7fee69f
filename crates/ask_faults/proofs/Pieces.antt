-- Texts that are put one behind the other.
use Rattle.std.proofs.Common.{◌≡◌, ℕ, zero, suc, ◌≤◌, List, [], ◌∷◌, ◌++◌, length, map, take, drop, refl, sym, ap, subst, ◌∙◌, append_assoc, arith}
use Rattle.std.specs.Prelude.{OnOk, Result, min}
use Rattle.std.proofs.lemmas.List.{drop_all}
use Rattle.ask_faults.specs.Lines.{shown, there_text}

pub more : (out a b x y : List ℕ) → x ≡ out ++ a → y ≡ x ++ b → y ≡ out ++ (a ++ b)
more out a b x y first second = second ∙ ap (λ (l : List ℕ). l ++ b) first ∙ append_assoc out a b

pub last : {T E : Type 0} (r : Result T E) (out a b x y : List ℕ) → x ≡ out ++ a → OnOk r (y ≡ x ++ b) → OnOk r (y ≡ out ++ (a ++ b))
last r out a b x y first second =
    subst (λ (l : List ℕ). OnOk r (y ≡ l)) (ap (λ (l : List ℕ). l ++ b) first ∙ append_assoc out a b) second

-- both texts are others than they were given as
pub last_as : {T E : Type 0} (r : Result T E) (out a b c d x y : List ℕ) → x ≡ out ++ a → a ≡ c → OnOk r (y ≡ x ++ b) → b ≡ d → OnOk r (y ≡ out ++ (c ++ d))
last_as r out a b c d x y first a_is second b_is =
    subst (λ (l : List ℕ). OnOk r (y ≡ out ++ (l ++ d))) a_is
    (subst (λ (l : List ℕ). OnOk r (y ≡ out ++ (a ++ l))) b_is (last r out a b x y first second))

-- ---- what stands there

pub none_behind : (text : List ℕ) (place : ℕ) → length text ≤ place → [] ≡ drop place text
none_behind text place past = sym (drop_all place text past)

none_taken : (k : ℕ) → take {A = ℕ} k [] ≡ []
none_taken zero = refl
none_taken (suc k) = refl

pub take_short : (n : ℕ) (xs : List ℕ) → take (min (length xs) n) xs ≡ take n xs
take_short n [] = none_taken (min 0 n) ∙ sym (none_taken n)
take_short zero (x ∷ xs) =
    let none : min (length (x ∷ xs)) 0 ≡ 0 = omega arith in
    ap (λ (k : ℕ). take k (x ∷ xs)) none
take_short (suc n) (x ∷ xs) =
    let less : min (length (x ∷ xs)) (suc n) ≡ suc (min (length xs) n) = omega arith in
    ap (λ (k : ℕ). take k (x ∷ xs)) less ∙ ap (λ (l : List ℕ). x ∷ l) (take_short n xs)

pub there_some : (rest shown_rest : List ℕ) → (length rest ≡ 0 → ⊥) → shown_rest ≡ take 40 rest → map shown shown_rest ≡ there_text rest
there_some [] s some is = absurd (some refl)
there_some (b ∷ bs) s some is = ap (map shown) is
