-- Which parts are chosen, disjunct by disjunct.
use Rattle.std.proofs.Common.{◌≡◌, ℕ, ◌+◌, ◌<◌, ◌≤◌, Bool, true, false, List, [], ◌∷◌, ◌++◌, refl, sym, ◌∙◌, ap, arith, append-nil, inl, inr}
use Rattle.std.specs.Prelude.{not, ◌&&◌, ◌==◌, if◌then◌else◌, ⊤}
use Rattle.std.proofs.lemmas.Bool.{cases_Bool, and_parts, false≢true, eq-eqb, ne_eqb}
use Rattle.std.proofs.lemmas.List.Elements.{filter-append}
use Rattle.conjunctions.specs.declared.answer.PartAnswer.{PartAnswer}
use Rattle.answer_report.specs.inside.Choosing.{of_disjunct, first_true, first_false}

-- each part is of the disjunct of this number
abbrev pub AreOf : ℕ → List PartAnswer → Type 0
AreOf n [] = ⊤
AreOf n (p ∷ parts) = (p.disjunct ≡ n) × AreOf n parts

-- each part is of a disjunct from this number on
abbrev pub AreFrom : ℕ → List PartAnswer → Type 0
AreFrom n [] = ⊤
AreFrom n (p ∷ parts) = (n ≤ p.disjunct) × AreFrom n parts

-- whether no part is false
abbrev pub all_true : List PartAnswer → Bool
all_true [] = true
all_true (p ∷ parts) = p.truth && all_true parts

pub of_from : (n m : ℕ) (parts : List PartAnswer) → n ≤ m → AreOf m parts → AreFrom n parts
of_from n m [] h k = tt
of_from n m (p ∷ parts) h k = (omega (arith, h, k.0), of_from n m parts h k.1)

pub from_from : (n m : ℕ) (parts : List PartAnswer) → n ≤ m → AreFrom m parts → AreFrom n parts
from_from n m [] h k = tt
from_from n m (p ∷ parts) h k = (omega (arith, h, k.0), from_from n m parts h k.1)

pub from_joined : (n : ℕ) (mine later : List PartAnswer) → AreFrom n mine → AreFrom n later → AreFrom n (mine ++ later)
from_joined n [] later h k = k
from_joined n (p ∷ mine) later h k = (h.0, from_joined n mine later h.1 k)

same : (m n : ℕ) → m ≡ n → (m == n) ≡ true
same m n e = eq-eqb m n e

other : (m n : ℕ) → (m ≡ n → ⊥) → (m == n) ≡ false
other m n h = ne_eqb m n h

-- ---- the first true disjunct

pub true_step : (n : ℕ) (p : PartAnswer) (parts : List PartAnswer) → p.truth ≡ true → first_true n (p ∷ parts) ≡ first_true n parts
true_step n p parts e = ap (λ (b : Bool). first_true (if not b && (p.disjunct == n) then n + 1 else n) parts) e

pub other_step : (n : ℕ) (p : PartAnswer) (parts : List PartAnswer) → (p.disjunct ≡ n → ⊥) → first_true n (p ∷ parts) ≡ first_true n parts
other_step n p parts h = ap (λ (b : Bool). first_true (if not p.truth && b then n + 1 else n) parts) (other p.disjunct n h) ∙ ap (λ m. first_true m parts) (none p.truth)
  where
    none : (b : Bool) → (if not b && false then n + 1 else n) ≡ n
    none true = refl
    none false = refl

pub false_step : (n : ℕ) (p : PartAnswer) (parts : List PartAnswer) → p.truth ≡ false → p.disjunct ≡ n → first_true n (p ∷ parts) ≡ first_true (n + 1) parts
false_step n p parts e d =
    ap (λ (b : Bool). first_true (if not b && (p.disjunct == n) then n + 1 else n) parts) e ∙ ap (λ (b : Bool). first_true (if b then n + 1 else n) parts) (same p.disjunct n d)

-- a disjunct without a false part stays
pub true_stays : (n : ℕ) (mine later : List PartAnswer) → all_true mine ≡ true → first_true n (mine ++ later) ≡ first_true n later
true_stays n [] later e = refl
true_stays n (p ∷ mine) later e =
    let both = and_parts p.truth (all_true mine) e in true_step n p (mine ++ later) both.0 ∙ true_stays n mine later both.1

pub later_stays : (n : ℕ) (later : List PartAnswer) → AreFrom (n + 1) later → first_true n later ≡ n
later_stays n [] h = refl
later_stays n (p ∷ later) h = other_step n p later (λ e. omega (arith, e, h.0)) ∙ later_stays n later h.1

passes : (m n : ℕ) (mine later : List PartAnswer) → AreOf m mine → (m ≡ n → ⊥) → first_true n (mine ++ later) ≡ first_true n later
passes m n [] later h k = refl
passes m n (p ∷ mine) later h k = other_step n p (mine ++ later) (λ e. k (sym h.0 ∙ e)) ∙ passes m n mine later h.1 k

-- a disjunct with a false part is passed
pub false_moves : (n : ℕ) (mine later : List PartAnswer) → AreOf n mine → all_true mine ≡ false → first_true n (mine ++ later) ≡ first_true (n + 1) later
false_moves n [] later h e = absurd (false≢true (sym e))
false_moves n (p ∷ mine) later h e = elim (cases_Bool p.truth) [
  | inl t ↦ true_step n p (mine ++ later) t ∙ false_moves n mine later h.1 (sym (ap (λ (b : Bool). b && all_true mine) t) ∙ e)
  | inr f ↦ false_step n p (mine ++ later) f h.0 ∙ passes n (n + 1) mine later h.1 (λ d. omega (arith, d))
]

pub first_true_from : (n : ℕ) (parts : List PartAnswer) → n ≤ first_true n parts
first_true_from n [] = omega arith
first_true_from n (p ∷ parts) = step (not p.truth && (p.disjunct == n)) (first_true_from n parts) (first_true_from (n + 1) parts)
  where
    step : (b : Bool) → n ≤ first_true n parts → n + 1 ≤ first_true (n + 1) parts → n ≤ first_true (if b then n + 1 else n) parts
    step true here next = omega (arith, next)
    step false here next = here

-- ---- the parts of a disjunct

pub of_step : (n : ℕ) (p : PartAnswer) (parts : List PartAnswer) → p.disjunct ≡ n → of_disjunct n (p ∷ parts) ≡ p ∷ of_disjunct n parts
of_step n p parts e = rw (same p.disjunct n e) refl

pub off_step : (n : ℕ) (p : PartAnswer) (parts : List PartAnswer) → (p.disjunct ≡ n → ⊥) → of_disjunct n (p ∷ parts) ≡ of_disjunct n parts
off_step n p parts h = rw (other p.disjunct n h) refl

all_mine : (n : ℕ) (mine : List PartAnswer) → AreOf n mine → of_disjunct n mine ≡ mine
all_mine n [] h = refl
all_mine n (p ∷ mine) h = of_step n p mine h.0 ∙ ap (λ (ps : List PartAnswer). p ∷ ps) (all_mine n mine h.1)

none_mine : (n m : ℕ) (mine : List PartAnswer) → AreOf m mine → (m ≡ n → ⊥) → of_disjunct n mine ≡ []
none_mine n m [] h k = refl
none_mine n m (p ∷ mine) h k = off_step n p mine (λ e. k (sym h.0 ∙ e)) ∙ none_mine n m mine h.1 k

none_later : (n : ℕ) (later : List PartAnswer) → AreFrom (n + 1) later → of_disjunct n later ≡ []
none_later n [] h = refl
none_later n (p ∷ later) h = off_step n p later (λ e. omega (arith, e, h.0)) ∙ none_later n later h.1

pub just_mine : (n : ℕ) (mine later : List PartAnswer) → AreOf n mine → AreFrom (n + 1) later → of_disjunct n (mine ++ later) ≡ mine
just_mine n mine later h k =
    filter-append (λ (p : PartAnswer). p.disjunct == n) mine later ∙ ap (λ (ps : List PartAnswer). ps ++ of_disjunct n later) (all_mine n mine h)
    ∙ ap (λ (ps : List PartAnswer). mine ++ ps) (none_later n later k) ∙ append-nil mine

pub just_later : (n m : ℕ) (mine later : List PartAnswer) → AreOf m mine → m < n → of_disjunct n (mine ++ later) ≡ of_disjunct n later
just_later n m mine later h k =
    filter-append (λ (p : PartAnswer). p.disjunct == n) mine later ∙ ap (λ (ps : List PartAnswer). ps ++ of_disjunct n later) (none_mine n m mine h (λ e. omega (arith, e, k)))

-- ---- the first false parts

pub true_left : (n : ℕ) (p : PartAnswer) (parts : List PartAnswer) → p.truth ≡ true → first_false n (p ∷ parts) ≡ first_false n parts
true_left n p parts e = ap (λ (b : Bool). if not b && not (p.disjunct == n) then p ∷ first_false p.disjunct parts else first_false n parts) e

pub told_left : (n : ℕ) (p : PartAnswer) (parts : List PartAnswer) → p.disjunct ≡ n → first_false n (p ∷ parts) ≡ first_false n parts
told_left n p parts e =
    ap (λ (b : Bool). if not p.truth && not b then p ∷ first_false p.disjunct parts else first_false n parts) (same p.disjunct n e) ∙ none p.truth
  where
    none : (b : Bool) → (if not b && false then p ∷ first_false p.disjunct parts else first_false n parts) ≡ first_false n parts
    none true = refl
    none false = refl

pub false_taken : (n : ℕ) (p : PartAnswer) (parts : List PartAnswer) → p.truth ≡ false → (p.disjunct ≡ n → ⊥) → first_false n (p ∷ parts) ≡ p ∷ first_false p.disjunct parts
false_taken n p parts e h =
    ap (λ (b : Bool). if not b && not (p.disjunct == n) then p ∷ first_false p.disjunct parts else first_false n parts) e
    ∙ ap (λ (b : Bool). if not b then p ∷ first_false p.disjunct parts else first_false n parts) (other p.disjunct n h)

pub mine_left : (n : ℕ) (mine later : List PartAnswer) → AreOf n mine → first_false n (mine ++ later) ≡ first_false n later
mine_left n [] later h = refl
mine_left n (p ∷ mine) later h = told_left n p (mine ++ later) h.0 ∙ mine_left n mine later h.1
