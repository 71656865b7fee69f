-- Tests over lists that agree, and a name that is the name at a place.
use Rattle.std.proofs.Common.{◌≡◌, ℕ, ◌<◌, Bool, true, false, List, [], ◌∷◌, length, map, refl, sym, ap, ◌∙◌, inl, inr}
use Rattle.std.specs.Prelude.{◌||◌, ◌&&◌, ◌==◌}
use Rattle.std.specs.List.{list_any, AllByRecursion}
use Rattle.std.specs.Str.{bytes_eq}
use Rattle.std.proofs.lemmas.Bool.{cases_Bool, both_ways, eqb-true, eq-eqb, ne_eqb}
use Rattle.std.proofs.lemmas.Slice.Eq.{bytes_eq-Decides}
use Rattle.log_lines.specs.Names.{Name, are_distinct}
use Rattle.event_log.specs.LogText.{name_at}
use Rattle.event_log.proofs.NameLaws.{place_some}
use Rattle.event_log.proofs.NameNumbers.{number_is, number_again}
use Rattle.run_model.specs.Run.{number_of}

pub any_agree : {X : Type 0} (f g : X → Bool) → ((x : X) → f x ≡ g x) → (xs : List X) → list_any f xs ≡ list_any g xs
any_agree f g h [] = refl
any_agree f g h (x ∷ xs) = ap (λ (b : Bool). b || list_any f xs) (h x) ∙ ap (λ (b : Bool). g x || b) (any_agree f g h xs)

-- they agree where elements are as they should be
pub any_agree_where : {X : Type 0} (P : X → Type 0) (f g : X → Bool) → ((x : X) → P x → f x ≡ g x) → (xs : List X) → AllByRecursion P xs → list_any f xs ≡ list_any g xs
any_agree_where P f g h [] all = refl
any_agree_where P f g h (x ∷ xs) all = ap (λ (b : Bool). b || list_any f xs) (h x all.0) ∙ ap (λ (b : Bool). g x || b) (any_agree_where P f g h xs all.1)

pub any_none : {X : Type 0} (xs : List X) → list_any (λ (x : X). false) xs ≡ false
any_none [] = refl
any_none (x ∷ xs) = any_none xs

pub any_map : {X Y : Type 0} (m : X → Y) (f : Y → Bool) (xs : List X) → list_any f (map m xs) ≡ list_any (λ (x : X). f (m x)) xs
any_map m f [] = refl
any_map m f (x ∷ xs) = ap (λ (b : Bool). f (m x) || b) (any_map m f xs)

or_swapped : (a b c d : Bool) → ((a || b) || (c || d)) ≡ ((a || c) || (b || d))
or_swapped true b c d = refl
or_swapped false true true d = refl
or_swapped false true false d = refl
or_swapped false false c d = refl

any_or : {X : Type 0} (f g : X → Bool) (xs : List X) → list_any (λ (x : X). f x || g x) xs ≡ (list_any f xs || list_any g xs)
any_or f g [] = refl
any_or f g (x ∷ xs) = ap (λ (b : Bool). (f x || g x) || b) (any_or f g xs) ∙ or_swapped (f x) (g x) (list_any f xs) (list_any g xs)

any_and : {X : Type 0} (b : Bool) (g : X → Bool) (xs : List X) → list_any (λ (x : X). b && g x) xs ≡ (b && list_any g xs)
any_and true g xs = refl
any_and false g xs = any_none xs

-- some assignment sets some variable, or some variable is set by some assignment
pub any_turned : {X Y : Type 0} (f : Y → Bool) (g : X → Y → Bool) (xs : List X) (ys : List Y)
    → list_any (λ (x : X). list_any (λ (y : Y). f y && g x y) ys) xs ≡ list_any (λ (y : Y). f y && list_any (λ (x : X). g x y) xs) ys
any_turned f g xs [] = any_none xs
any_turned {X} {Y} f g xs (y ∷ ys) =
    let one = list_any (λ (x : X). f y && g x y) xs in
    any_or (λ (x : X). f y && g x y) (λ (x : X). list_any (λ (y : Y). f y && g x y) ys) xs
    ∙ ap (λ (b : Bool). one || b) (any_turned f g xs ys)
    ∙ ap (λ (b : Bool). b || list_any (λ (y : Y). f y && list_any (λ (x : X). g x y) xs) ys) (any_and (f y) (λ (x : X). g x y) xs)

-- ---- names and numbers

pub name_is_there : (names : List Name) (p : ℕ) (name : Name) → are_distinct names ≡ true → p < length names → bytes_eq name (name_at names p) ≡ (number_of name names == p)
name_is_there names p name distinct lt =
    let decides = bytes_eq-Decides name (name_at names p) in
    elim (cases_Bool (bytes_eq name (name_at names p))) [
      | inl same ↦ same ∙ sym (eq-eqb (number_of name names) p (ap (λ (n : Name). number_of n names) (decides.0 same) ∙ number_again names p distinct lt))
      | inr other ↦ other ∙ sym (ne_eqb (number_of name names) p (λ e.
          both_ways (bytes_eq name (name_at names p)) other (decides.1 (sym (place_some names name p (number_is names name p e lt)).1))))
    ]

pub eq_turned : (m n : ℕ) → (m == n) ≡ (n == m)
eq_turned m n = elim (cases_Bool (m == n)) [
  | inl same ↦ same ∙ sym (eq-eqb n m (sym (eqb-true m n same)))
  | inr other ↦ other ∙ sym (ne_eqb n m (λ e. both_ways (m == n) other (eq-eqb m n (sym e))))
]

pub and_turned : (a b : Bool) → (a && b) ≡ (b && a)
and_turned true true = refl
and_turned true false = refl
and_turned false true = refl
and_turned false false = refl
