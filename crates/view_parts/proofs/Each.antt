-- Lists that grow by what is made of one number more.
use Rattle.std.proofs.Common.{◌≡◌, ℕ, zero, suc, ◌+◌, List, [], ◌∷◌, ◌++◌, refl, sym, ap, subst, ◌∙◌, append_assoc, add-one}
use Rattle.std.specs.Prelude.{Result, OnOk}
use Rattle.std.specs.List.{flat_map}
use Rattle.view_parts.specs.Each.{each_below}

pub each_more : {A : Type 0} (made : ℕ → List A) (n : ℕ) → each_below (n + 1) made ≡ each_below n made ++ made n
each_more made n = ap (λ (k : ℕ). each_below k made) (add-one n)

-- what is made of the next number stands behind what was made of those before it
pub puts_each : {A : Type 0} (made : ℕ → List A) (old out new : List A) (n : ℕ) → out ≡ old ++ each_below n made → new ≡ out ++ made n → new ≡ old ++ each_below (n + 1) made
puts_each {A} made old out new n so_far put =
    put ∙ ap (λ (t : List A). t ++ made n) so_far ∙ append_assoc old (each_below n made) (made n) ∙ ap (λ (t : List A). old ++ t) (sym (each_more made n))

pub flat_map-append : {A B : Type 0} (f : A → List B) (xs ys : List A) → flat_map f (xs ++ ys) ≡ flat_map f xs ++ flat_map f ys
flat_map-append f [] ys = refl
flat_map-append {A} {B} f (x ∷ xs) ys = ap (λ (t : List B). f x ++ t) (flat_map-append f xs ys) ∙ sym (append_assoc (f x) (flat_map f xs) (flat_map f ys))

-- what is told of each item of such a list
pub flat_map-each : {A B : Type 0} (f : A → List B) (made : ℕ → List A) (n : ℕ) → flat_map f (each_below n made) ≡ each_below n (λ k. flat_map f (made k))
flat_map-each f made zero = refl
flat_map-each {A} {B} f made (suc n) =
    flat_map-append f (each_below n made) (made n) ∙ ap (λ (t : List B). t ++ flat_map f (made n)) (flat_map-each f made n)

-- ---- texts that are put one behind the other

pub puts_more : {A : Type 0} (old a b t new : List A) → t ≡ old ++ a → new ≡ t ++ b → new ≡ old ++ (a ++ b)
puts_more {A} old a b t new h k = k ∙ ap (λ (x : List A). x ++ b) h ∙ append_assoc old a b

-- the same where the last one may fail
pub puts_last : {T E A : Type 0} (r : Result T E) (old a b t new : List A) → t ≡ old ++ a → OnOk r (new ≡ t ++ b) → OnOk r (new ≡ old ++ (a ++ b))
puts_last {T} {E} {A} r old a b t new h = subst (λ (x : List A). OnOk r (new ≡ x)) (puts_more old a b t (t ++ b) h refl)
