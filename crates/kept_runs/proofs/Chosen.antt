-- Elements that are chosen by their numbers: found by the numbers that they get, and given values there.
use Rattle.std.proofs.Common.{◌≡◌, ℕ, zero, suc, ◌+◌, ◌<◌, ◌≤◌, Bool, true, false, not, List, [], ◌∷◌, ◌++◌, length, map, get_or, set, take, filter, ℤ, sym, ap, ◌∙◌, subst, refl, inl, inr, arith}
use Rattle.std.specs.Prelude.{if◌then◌else◌}
use Rattle.std.specs.List.{position_or_len, AllByRecursion}
use Rattle.std.proofs.lemmas.Bool.{cases_Bool, cond-true, cond-false}
use Rattle.run_model.specs.Run.{Assignment, Event, assigned, state_from}
use Rattle.kept_runs.specs.Chosen.{chosen, new_number}

-- the test of the numbers one further
abbrev pub later : (ℕ → Bool) → ℕ → Bool
later t n = t (suc n)

pub chosen_first : {A : Type 0} (t : ℕ → Bool) (x : A) (xs : List A) → t 0 ≡ true → chosen t (x ∷ xs) ≡ x ∷ chosen (later t) xs
unfolding chosen
chosen_first t x xs on = cond-true (t 0) (x ∷ chosen (later t) xs) (chosen (later t) xs) on

pub chosen_later : {A : Type 0} (t : ℕ → Bool) (x : A) (xs : List A) → t 0 ≡ false → chosen t (x ∷ xs) ≡ chosen (later t) xs
unfolding chosen
chosen_later t x xs off = cond-false (t 0) (x ∷ chosen (later t) xs) (chosen (later t) xs) off

-- the number of the next one, by the first
number_next : (t : ℕ → Bool) (n : ℕ) → new_number t (suc n) ≡ (if t 0 then suc (new_number (later t) n) else new_number (later t) n)
unfolding new_number
number_next t zero = refl
number_next t (suc n) = elim (cases_Bool (t 0)) [
  | inl on ↦
      let one : new_number t (suc n) ≡ suc (new_number (later t) n) = number_next t n ∙ cond-true (t 0) (suc (new_number (later t) n)) (new_number (later t) n) on in
      ap (λ m. if t (suc n) then suc m else m) one
      ∙ elim (cases_Bool (t (suc n))) [
        | inl here ↦ cond-true (t (suc n)) _ _ here ∙ ap suc (sym (cond-true (t (suc n)) (suc (new_number (later t) n)) (new_number (later t) n) here))
        | inr here ↦ cond-false (t (suc n)) _ _ here ∙ ap suc (sym (cond-false (t (suc n)) (suc (new_number (later t) n)) (new_number (later t) n) here))
      ]
      ∙ sym (cond-true (t 0) (suc (new_number (later t) (suc n))) (new_number (later t) (suc n)) on)
  | inr off ↦
      let one : new_number t (suc n) ≡ new_number (later t) n = number_next t n ∙ cond-false (t 0) (suc (new_number (later t) n)) (new_number (later t) n) off in
      ap (λ m. if t (suc n) then suc m else m) one
      ∙ sym (cond-false (t 0) (suc (new_number (later t) (suc n))) (new_number (later t) (suc n)) off)
]

number_first : (t : ℕ → Bool) (n : ℕ) → t 0 ≡ true → new_number t (suc n) ≡ suc (new_number (later t) n)
number_first t n on = number_next t n ∙ cond-true (t 0) (suc (new_number (later t) n)) (new_number (later t) n) on

number_later : (t : ℕ → Bool) (n : ℕ) → t 0 ≡ false → new_number t (suc n) ≡ new_number (later t) n
number_later t n off = number_next t n ∙ cond-false (t 0) (suc (new_number (later t) n)) (new_number (later t) n) off

-- an element that is chosen stands at its new number
pub chosen_at : {A : Type 0} (t : ℕ → Bool) (xs : List A) (n : ℕ) (d : A) → t n ≡ true → get_or (chosen t xs) (new_number t n) d ≡ get_or xs n d
unfolding chosen new_number
chosen_at t [] n d on = refl
chosen_at t (x ∷ xs) zero d on = ap (λ ys. get_or ys 0 d) (chosen_first t x xs on)
chosen_at t (x ∷ xs) (suc n) d on = elim (cases_Bool (t 0)) [
  | inl first ↦ (λ i. get_or (chosen_first t x xs first i) (number_first t n first i) d) ∙ chosen_at (later t) xs n d on
  | inr off ↦ (λ i. get_or (chosen_later t x xs off i) (number_later t n off i) d) ∙ chosen_at (later t) xs n d on
]

pub chosen_mapped : {A B : Type 0} (f : A → B) (t : ℕ → Bool) (xs : List A) → map f (chosen t xs) ≡ chosen t (map f xs)
unfolding chosen
chosen_mapped f t [] = refl
chosen_mapped f t (x ∷ xs) = elim (cases_Bool (t 0)) [
  | inl on ↦ ap (map f) (chosen_first t x xs on) ∙ ap (λ ys. f x ∷ ys) (chosen_mapped f (later t) xs) ∙ sym (chosen_first t (f x) (map f xs) on)
  | inr off ↦ ap (map f) (chosen_later t x xs off) ∙ chosen_mapped f (later t) xs ∙ sym (chosen_later t (f x) (map f xs) off)
]

here_first : {A : Type 0} (p : A → Bool) (x : A) (xs : List A) → p x ≡ true → position_or_len p (x ∷ xs) ≡ 0
here_first p x xs on = ap (λ b. if not b then 1 + position_or_len p xs else 0) on

here_later : {A : Type 0} (p : A → Bool) (x : A) (xs : List A) → p x ≡ false → position_or_len p (x ∷ xs) ≡ suc (position_or_len p xs)
here_later p x xs off = ap (λ b. if not b then 1 + position_or_len p xs else 0) off ∙ omega arith

-- the first that passes a test is found at its new number, if it is chosen
pub chosen_place : {A : Type 0} (p : A → Bool) (t : ℕ → Bool) (xs : List A) → t (position_or_len p xs) ≡ true → position_or_len p (chosen t xs) ≡ new_number t (position_or_len p xs)
unfolding chosen new_number
chosen_place p t [] on = refl
chosen_place p t (x ∷ xs) on = elim (cases_Bool (p x)) [
  | inl passes ↦
      let at = here_first p x xs passes in
      ap (position_or_len p) (chosen_first t x xs (ap t (sym at) ∙ on)) ∙ here_first p x (chosen (later t) xs) passes ∙ sym (ap (new_number t) at)
  | inr other ↦
      let at = here_later p x xs other in
      let rest = chosen_place p (later t) xs (ap t (sym at) ∙ on) in
      elim (cases_Bool (t 0)) [
        | inl first ↦
            ap (position_or_len p) (chosen_first t x xs first) ∙ here_later p x (chosen (later t) xs) other ∙ ap suc rest
            ∙ sym (number_first t (position_or_len p xs) first) ∙ sym (ap (new_number t) at)
        | inr off ↦
            ap (position_or_len p) (chosen_later t x xs off) ∙ rest
            ∙ sym (number_later t (position_or_len p xs) off) ∙ sym (ap (new_number t) at)
      ]
]

-- what is set at a number that is chosen is set at its new number
pub chosen_set : {A : Type 0} (t : ℕ → Bool) (xs : List A) (n : ℕ) (y : A) → t n ≡ true → set (chosen t xs) (new_number t n) y ≡ chosen t (set xs n y)
unfolding chosen new_number
chosen_set t [] n y on = refl
chosen_set t (x ∷ xs) zero y on = ap (λ ys. set ys 0 y) (chosen_first t x xs on) ∙ sym (chosen_first t y xs on)
chosen_set t (x ∷ xs) (suc n) y on = elim (cases_Bool (t 0)) [
  | inl first ↦ (λ i. set (chosen_first t x xs first i) (number_first t n first i) y) ∙ ap (λ ys. x ∷ ys) (chosen_set (later t) xs n y on) ∙ sym (chosen_first t x (set xs n y) first)
  | inr off ↦ (λ i. set (chosen_later t x xs off i) (number_later t n off i) y) ∙ chosen_set (later t) xs n y on ∙ sym (chosen_later t x (set xs n y) off)
]

-- and what is set elsewhere leaves them as they are
pub chosen_left : {A : Type 0} (t : ℕ → Bool) (xs : List A) (n : ℕ) (y : A) → t n ≡ false → chosen t (set xs n y) ≡ chosen t xs
unfolding chosen
chosen_left t [] n y off = refl
chosen_left t (x ∷ xs) zero y off = chosen_later t y xs off ∙ sym (chosen_later t x xs off)
chosen_left t (x ∷ xs) (suc n) y off = elim (cases_Bool (t 0)) [
  | inl first ↦ chosen_first t x (set xs n y) first ∙ ap (λ ys. x ∷ ys) (chosen_left (later t) xs n y off) ∙ sym (chosen_first t x xs first)
  | inr other ↦ chosen_later t x (set xs n y) other ∙ chosen_left (later t) xs n y off ∙ sym (chosen_later t x xs other)
]

-- ---- all are chosen

pub chosen_all : {A : Type 0} (t : ℕ → Bool) (xs : List A) → ((n : ℕ) → t n ≡ true) → chosen t xs ≡ xs
unfolding chosen
chosen_all t [] all = refl
chosen_all t (x ∷ xs) all = chosen_first t x xs (all 0) ∙ ap (λ ys. x ∷ ys) (chosen_all (later t) xs (λ n. all (suc n)))

pub number_all : (t : ℕ → Bool) (n : ℕ) → ((n : ℕ) → t n ≡ true) → new_number t n ≡ n
unfolding new_number
number_all t zero all = refl
number_all t (suc n) all = cond-true (t n) (suc (new_number t n)) (new_number t n) (all n) ∙ ap suc (number_all t n all)

-- ---- states

-- the assignments at numbers that are chosen, by their new numbers
abbrev pub renumbered : (ℕ → Bool) → Assignment → Assignment
renumbered t a = record a { variable = new_number t a.variable }

abbrev pub chosen_assigns : (ℕ → Bool) → List Assignment → List Assignment
chosen_assigns t xs = map (renumbered t) (filter (λ (a : Assignment). t a.variable) xs)

pub assigned_chosen : (t : ℕ → Bool) (st : List ℤ) (xs : List Assignment) → assigned (chosen t st) (chosen_assigns t xs) ≡ chosen t (assigned st xs)
unfolding assigned
assigned_chosen t st [] = refl
assigned_chosen t st (a ∷ xs) = elim (cases_Bool (t a.variable)) [
  | inl on ↦
      ap (λ ys. assigned (chosen t st) (map (renumbered t) ys)) (cond-true (t a.variable) (a ∷ filter (λ (b : Assignment). t b.variable) xs) (filter (λ (b : Assignment). t b.variable) xs) on)
      ∙ ap (λ su. assigned su (chosen_assigns t xs)) (chosen_set t st a.variable a.value on)
      ∙ assigned_chosen t (set st a.variable a.value) xs
  | inr off ↦
      ap (λ ys. assigned (chosen t st) (map (renumbered t) ys)) (cond-false (t a.variable) (a ∷ filter (λ (b : Assignment). t b.variable) xs) (filter (λ (b : Assignment). t b.variable) xs) off)
      ∙ ap (λ su. assigned su (chosen_assigns t xs)) (sym (chosen_left t st a.variable a.value off))
      ∙ assigned_chosen t (set st a.variable a.value) xs
]

-- the state that events leave whose assignments are chosen ones
pub state_chosen : (t : ℕ → Bool) (g : Event → Event) → ((e : Event) → (g e).assigns ≡ chosen_assigns t e.assigns) → (xs : List Event) (m : ℕ) (st : List ℤ)
    → state_from (chosen t st) (take m (map g xs)) ≡ chosen t (state_from st (take m (map (λ e. e) xs)))
unfolding state_from
state_chosen t g same [] zero st = refl
state_chosen t g same [] (suc m) st = refl
state_chosen t g same (x ∷ xs) zero st = refl
state_chosen t g same (x ∷ xs) (suc m) st =
    ap (λ zs. state_from (assigned (chosen t st) zs) (take m (map g xs))) (same x)
    ∙ ap (λ su. state_from su (take m (map g xs))) (assigned_chosen t st x.assigns)
    ∙ state_chosen t g same xs m (assigned st x.assigns)

pub assigns_all : (t : ℕ → Bool) (xs : List Assignment) → ((n : ℕ) → t n ≡ true) → chosen_assigns t xs ≡ xs
assigns_all t [] all = refl
assigns_all t (a ∷ xs) all =
    ap (map (renumbered t)) (cond-true (t a.variable) (a ∷ filter (λ (b : Assignment). t b.variable) xs) (filter (λ (b : Assignment). t b.variable) xs) (all a.variable))
    ∙ ap (λ n. record a { variable = n } ∷ chosen_assigns t xs) (number_all t a.variable all)
    ∙ ap (λ ys. a ∷ ys) (assigns_all t xs all)

-- ---- one more behind

pub chosen_more : {A : Type 0} (t : ℕ → Bool) (xs : List A) (x : A) → chosen t (xs ++ x ∷ []) ≡ chosen t xs ++ (if t (length xs) then x ∷ [] else [])
unfolding chosen
chosen_more t [] x = refl
chosen_more t (y ∷ xs) x = elim (cases_Bool (t 0)) [
  | inl on ↦ chosen_first t y (xs ++ x ∷ []) on ∙ ap (λ ys. y ∷ ys) (chosen_more (later t) xs x) ∙ ap (λ ys. ys ++ (if t (suc (length xs)) then x ∷ [] else [])) (sym (chosen_first t y xs on))
  | inr off ↦ chosen_later t y (xs ++ x ∷ []) off ∙ chosen_more (later t) xs x ∙ ap (λ ys. ys ++ (if t (suc (length xs)) then x ∷ [] else [])) (sym (chosen_later t y xs off))
]

pub number_below : (t : ℕ → Bool) (n : ℕ) → new_number t n ≤ n
unfolding new_number
number_below t zero = omega arith
number_below t (suc n) = elim (cases_Bool (t n)) [
  | inl on ↦ omega (arith, cond-true (t n) (suc (new_number t n)) (new_number t n) on, number_below t n)
  | inr off ↦ omega (arith, cond-false (t n) (suc (new_number t n)) (new_number t n) off, number_below t n)
]

one_more : (n : ℕ) → n + 1 ≡ suc n
one_more n = omega arith

pub number_more : (t : ℕ → Bool) (n : ℕ) → t n ≡ true → new_number t (n + 1) ≡ new_number t n + 1
unfolding new_number
number_more t n on = ap (new_number t) (one_more n) ∙ cond-true (t n) (suc (new_number t n)) (new_number t n) on ∙ omega arith

pub number_stays : (t : ℕ → Bool) (n : ℕ) → t n ≡ false → new_number t (n + 1) ≡ new_number t n
unfolding new_number
number_stays t n off = ap (new_number t) (one_more n) ∙ cond-false (t n) (suc (new_number t n)) (new_number t n) off

-- ---- fewer, and each of those that were there

pub chosen_length : {A : Type 0} (t : ℕ → Bool) (xs : List A) → length (chosen t xs) ≤ length xs
unfolding chosen
chosen_length t [] = omega arith
chosen_length t (x ∷ xs) = elim (cases_Bool (t 0)) [
  | inl on ↦ omega (arith, ap length (chosen_first t x xs on), chosen_length (later t) xs)
  | inr off ↦ omega (arith, ap length (chosen_later t x xs off), chosen_length (later t) xs)
]

-- a number that is chosen and there gets one that is there
pub number_within : {A : Type 0} (t : ℕ → Bool) (xs : List A) (n : ℕ) → t n ≡ true → n < length xs → new_number t n < length (chosen t xs)
unfolding chosen new_number
number_within t [] n on lt = absurd (omega (arith, lt))
number_within t (x ∷ xs) zero on lt = omega (arith, ap length (chosen_first t x xs on))
number_within t (x ∷ xs) (suc n) on lt = elim (cases_Bool (t 0)) [
  | inl first ↦ omega (arith, ap length (chosen_first t x xs first), number_first t n first, number_within (later t) xs n on (omega (arith, lt)))
  | inr off ↦ omega (arith, ap length (chosen_later t x xs off), number_later t n off, number_within (later t) xs n on (omega (arith, lt)))
]

pub chosen_each : {A : Type 0} (P : A → Type 0) (t : ℕ → Bool) (xs : List A) → AllByRecursion P xs → AllByRecursion P (chosen t xs)
unfolding chosen
chosen_each P t [] all = tt
chosen_each P t (x ∷ xs) all = elim (cases_Bool (t 0)) [
  | inl on ↦ subst (AllByRecursion P) (sym (chosen_first t x xs on)) (all.0, chosen_each P (later t) xs all.1)
  | inr off ↦ subst (AllByRecursion P) (sym (chosen_later t x xs off)) (chosen_each P (later t) xs all.1)
]
