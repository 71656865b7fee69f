-- Events of a process behind its first ones.
use Rattle.std.proofs.Common.{◌≡◌, ℕ, zero, suc, ◌+◌, ◌<◌, Bool, true, false, ◌||◌, List, [], ◌∷◌, ◌++◌, refl, sym, ap, ◌∙◌, subst, arith, inl, inr, append_assoc, append-nil}
use Rattle.std.specs.List.{list_any}
use Rattle.std.proofs.lemmas.Bool.{cases_eq}
use Rattle.std.proofs.lemmas.List.Folds.{list_any-append}
use Rattle.pota_base.specs.declared.shape.EventId.{EventId}
use Rattle.view_parts.specs.Each.{own_places}
use Rattle.view_parts.specs.Parts.{place}
use Rattle.view_parts.proofs.Each.{each_more}
use Rattle.view_picture.specs.inside.Lost.{places_behind}

or_true : (a b : Bool) → b ≡ true → (a || b) ≡ true
or_true true b h = refl
or_true false b h = h

or_kept : (a b : Bool) → a ≡ true → (a || b) ≡ true
or_kept true b h = refl
or_kept false b h = cc

turned : (a b : Bool) → (a || b) ≡ (b || a)
turned true true = refl
turned true false = refl
turned false true = refl
turned false false = refl

one_any : (p : EventId → Bool) (e : EventId) → list_any p (e ∷ []) ≡ p e
one_any p e = by_test (p e)
  where
    by_test : (b : Bool) → (b || false) ≡ b
    by_test true = refl
    by_test false = refl

pub one_found : (p : EventId → Bool) (process first n k : ℕ) → k < n → p (place process (first + k + 1)) ≡ true → list_any p (places_behind process first n) ≡ true
one_found p process first zero k lt h = absurd (omega (arith, lt))
one_found p process first (suc n) k lt h =
    let all = places_behind process first n in
    let next = place process (first + n + 1) in
    let more : list_any p (places_behind process first (suc n)) ≡ (list_any p all || p next) = list_any-append p all (next ∷ []) ∙ ap (λ (b : Bool). list_any p all || b) (one_any p next) in
    elim (cases_eq k n) [
      | inl same ↦ more ∙ or_true (list_any p all) (p next) (subst (λ (j : ℕ). p (place process (first + j + 1)) ≡ true) same h)
      | inr other ↦ more ∙ or_kept (list_any p all) (p next) (one_found p process first n k (omega (arith, lt, other)) h)
    ]

-- the first events of a process, and those behind them
split : (process first n : ℕ) → own_places process (first + n) ≡ own_places process first ++ places_behind process first n
split process first zero =
    let same : first + 0 ≡ first = omega arith in
    ap (λ (k : ℕ). own_places process k) same ∙ sym (append-nil (own_places process first))
split process first (suc n) =
    let next = place process (first + n + 1) in
    let longer : first + suc n ≡ first + n + 1 = omega arith in
    ap (λ (k : ℕ). own_places process k) longer ∙ each_more (λ k. place process (k + 1) ∷ []) (first + n) ∙ ap (λ (es : List EventId). es ++ next ∷ []) (split process first n)
    ∙ append_assoc (own_places process first) (places_behind process first n) (next ∷ [])

at_first : (process n : ℕ) → places_behind process 0 n ≡ own_places process n
at_first process zero = refl
at_first process (suc n) =
    let same : 0 + n ≡ n = omega arith in
    ap (λ (es : List EventId). es ++ place process (0 + n + 1) ∷ []) (at_first process n) ∙ ap (λ (k : ℕ). own_places process n ++ place process (k + 1) ∷ []) same

-- to look behind the first ones and then among them is to look among all
either_side : (p : EventId → Bool) (process first n count : ℕ) → first + n ≡ count → (list_any p (places_behind process first n) || list_any p (places_behind process 0 first)) ≡ list_any p (own_places process count)
either_side p process first n count whole =
    turned (list_any p (places_behind process first n)) (list_any p (places_behind process 0 first))
    ∙ ap (λ (es : List EventId). list_any p es || list_any p (places_behind process first n)) (at_first process first)
    ∙ sym (list_any-append p (own_places process first) (places_behind process first n))
    ∙ ap (λ (es : List EventId). list_any p es) (sym (split process first n))
    ∙ ap (λ (k : ℕ). list_any p (own_places process k)) whole

-- one that is found behind them is one of all
pub found_behind : (p : EventId → Bool) (process first n count : ℕ) → first + n ≡ count → list_any p (places_behind process first n) ≡ true → list_any p (own_places process count) ≡ true
found_behind p process first n count whole h =
    sym (either_side p process first n count whole) ∙ or_kept (list_any p (places_behind process first n)) (list_any p (places_behind process 0 first)) h

left_false : (a b : Bool) → a ≡ false → (a || b) ≡ b
left_false true b h = cc
left_false false b h = refl

-- where none is found there, the first ones tell
pub found_before : (p : EventId → Bool) (process first n count : ℕ) → first + n ≡ count → list_any p (places_behind process first n) ≡ false → list_any p (own_places process count) ≡ list_any p (places_behind process 0 first)
found_before p process first n count whole h =
    sym (either_side p process first n count whole) ∙ left_false (list_any p (places_behind process first n)) (list_any p (places_behind process 0 first)) h
