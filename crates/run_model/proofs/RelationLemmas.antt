-- Comparisons: the turned relation, and what a comparison of counts says in numbers.
use Rattle.std.proofs.Common.{◌≡◌, ℕ, ◌<◌, ◌≤◌, min, max, Bool, true, false, not, ltb, leb, ℤ, pos, negsuc, nat_abs, int_lt, int_le, int_eq, sym, ap, ◌∙◌, refl, inl, inr, arith}
use Rattle.std.proofs.lemmas.Bool.{cases_lt, ltb-true, leb-true, lt-ltb, le-leb, le-ltb, lt-leb, not-true, not_from_false, false_from_ne_true, both_ways}
use Rattle.std.proofs.lemmas.Bool.Decides.{Decides-int_eq}
use Rattle.run_model.specs.Formula.{Relation, Equal, Unequal, Less, LessOrEqual, Greater, GreaterOrEqual}
use Rattle.run_model.specs.Meaning.{compares}
use Rattle.run_model.specs.Class.{turned, is_unequal}

leb_turned : (a b : ℕ) → leb a b ≡ not (ltb b a)
leb_turned a b = elim (cases_lt b a) [
  | inl l ↦ lt-leb a b l ∙ sym (ap not (lt-ltb b a l))
  | inr g ↦ le-leb a b g ∙ sym (ap not (le-ltb b a g))
]

le_turned : (x y : ℤ) → int_le x y ≡ not (int_lt y x)
le_turned (pos a) (pos b) = leb_turned a b
le_turned (pos a) (negsuc b) = refl
le_turned (negsuc a) (pos b) = refl
le_turned (negsuc a) (negsuc b) = leb_turned b a

not_twice : (b : Bool) → b ≡ not (not b)
not_twice true = refl
not_twice false = refl

lt_turned : (x y : ℤ) → int_lt x y ≡ not (int_le y x)
lt_turned x y = not_twice (int_lt x y) ∙ ap not (sym (le_turned y x))

-- the turned relation holds exactly where the relation does not
pub compares-turned : (relation : Relation) (x y : ℤ) → compares (turned relation) x y ≡ not (compares relation x y)
compares-turned Equal x y = refl
compares-turned Unequal x y = not_twice (int_eq x y)
compares-turned Less x y = le_turned y x
compares-turned LessOrEqual x y = lt_turned y x
compares-turned Greater x y = le_turned x y
compares-turned GreaterOrEqual x y = lt_turned x y

-- what a comparison of counts says
abbrev pub HoldsOf : Relation → ℕ → ℕ → Type 0
HoldsOf Equal n k = n ≡ k
HoldsOf Unequal n k = n ≡ k → ⊥
HoldsOf Less n k = n < k
HoldsOf LessOrEqual n k = n ≤ k
HoldsOf Greater n k = k < n
HoldsOf GreaterOrEqual n k = k ≤ n

pub holds_of : (relation : Relation) (n k : ℕ) → compares relation (pos n) (pos k) ≡ true → HoldsOf relation n k
holds_of Equal n k h = ap nat_abs ((Decides-int_eq (pos n) (pos k)).0 h)
holds_of Unequal n k h = λ e. both_ways (int_eq (pos n) (pos k)) (not-true (int_eq (pos n) (pos k)) h) ((Decides-int_eq (pos n) (pos k)).1 (ap pos e))
holds_of Less n k h = ltb-true n k h
holds_of LessOrEqual n k h = leb-true n k h
holds_of Greater n k h = ltb-true k n h
holds_of GreaterOrEqual n k h = leb-true k n h

pub from_holds : (relation : Relation) (n k : ℕ) → HoldsOf relation n k → compares relation (pos n) (pos k) ≡ true
from_holds Equal n k h = (Decides-int_eq (pos n) (pos k)).1 (ap pos h)
from_holds Unequal n k h = not_from_false (int_eq (pos n) (pos k)) (false_from_ne_true (int_eq (pos n) (pos k)) (λ e. h (ap nat_abs ((Decides-int_eq (pos n) (pos k)).0 e))))
from_holds Less n k h = lt-ltb n k h
from_holds LessOrEqual n k h = le-leb n k h
from_holds Greater n k h = lt-ltb k n h
from_holds GreaterOrEqual n k h = le-leb k n h

-- but for unequal, what holds of two numbers holds between them
pub holds_between : (relation : Relation) (a b n k : ℕ) → is_unequal relation ≡ false → min a b ≤ n → n ≤ max a b → HoldsOf relation a k → HoldsOf relation b k → HoldsOf relation n k
holds_between Equal a b n k one low high h l = omega (arith, low, high, h, l)
holds_between Unequal a b n k one low high h l = absurd (both_ways true one refl)
holds_between Less a b n k one low high h l = omega (arith, low, high, h, l)
holds_between LessOrEqual a b n k one low high h l = omega (arith, low, high, h, l)
holds_between Greater a b n k one low high h l = omega (arith, low, high, h, l)
holds_between GreaterOrEqual a b n k one low high h l = omega (arith, low, high, h, l)
