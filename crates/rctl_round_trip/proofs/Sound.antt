-- The words of a text are names and its numbers have 64 bits, so that what was read of it can be spelled.
use Rattle.std.proofs.Common.{◌≡◌, ℕ, zero, suc, ◌+◌, Bool, true, false, List, [], ◌∷◌, take, Option, Some, None, refl, arith, inl, inr}
use Rattle.std.specs.Prelude.{ℤ, pos, negsuc, ◌==◌, FitsSigned, if◌then◌else◌}
use Rattle.std.specs.Int.{w64}
use Rattle.std.proofs.lemmas.Int.{ints}
use Rattle.std.proofs.lemmas.Bool.{cases_Bool}
use Rattle.pota_base.specs.Number.{signed_at, whole}
use Rattle.pota_base.proofs.NumberLaws.{signed_takes}
use Rattle.pota_names.specs.Names.{is_name, is_name_start, is_name_byte}
use Rattle.rctl_grammar.specs.declared.token.Kind.{Kind}
use Rattle.rctl_grammar.specs.declared.token.Kind.TheVariants as kind
use Rattle.rctl_grammar.specs.declared.token.Token.{Token}
use Rattle.rctl_grammar.specs.Grammar as grammar
use Rattle.rctl_grammar.specs.Grammar.{RightSide, Leaf, constant, comparison, watch, transit, emptiness, difference, Disjunction, one_conjunction, or, Conjunction, one_unary, and, Unary, leaf, negation, temporal, stepping, group, until, number_of, count_of, side_of, atom_of, text_side, text_leaf, text_disjunction, text_conjunction, text_unary}
use Rattle.rctl_grammar.specs.Shape.{plain_side, plain_atom, shape_disjunction, disjunct_shapes, shape_conjunction, conjunct_shapes, shape_unary}
use Rattle.rctl_lexer.specs.declared.front.Front.{Front}
use Rattle.rctl_lexer.specs.declared.front.Front.TheVariants as at_front
use Rattle.rctl_lexer.specs.declared.lexer.Lexed.{Lexed}
use Rattle.rctl_lexer.specs.Front.{front, is_blank, starts_with, leads_number, begins_number, sign_of, with_equals, longer_of, sign_front, word_front, number_front}
use Rattle.rctl_lexer.specs.Lexing.{lex, lex_from, lex_front}
use Rattle.rctl_lexer.specs.Runs.{run_of}
use Rattle.rctl_round_trip.proofs.Texts.{IsSide, IsAtom, IsSpellable, AreSpellable}

abbrev IsSomeFit : Option ℤ → Type 0
IsSomeFit (Some value) = FitsSigned w64 value
IsSomeFit None = Unit {0}

abbrev pub IsSound : Kind → Type 0
IsSound (kind.Word w name) = is_name name ≡ true
IsSound (kind.Number value) = IsSomeFit value
IsSound k = Unit {0}

abbrev pub AreSound : List Token → Type 0
AreSound [] = Unit {0}
AreSound (t ∷ ts) = IsSound t.kind × AreSound ts

-- ---- what stands at the front

abbrev IsSoundFront : Front → Type 0
IsSoundFront at_front.Blank = Unit {0}
IsSoundFront (at_front.Token k extra) = IsSound k
IsSoundFront at_front.Bad = Unit {0}

abbrev IsSoundSign : Option Kind → Type 0
IsSoundSign None = Unit {0}
IsSoundSign (Some k) = IsSound k

either_sign : (b : Bool) (x y : Option Kind) → IsSoundSign x → IsSoundSign y → IsSoundSign (if b then x else y)
either_sign true x y h k = h
either_sign false x y h k = k

either_front : (b : Bool) (x y : Front) → IsSoundFront x → IsSoundFront y → IsSoundFront (if b then x else y)
either_front true x y h k = h
either_front false x y h k = k

sign-sound : (b : ℕ) → IsSoundSign (sign_of b)
unfolding sign_of
sign-sound b = either_sign (b == 40) _ _ tt (either_sign (b == 41) _ _ tt (either_sign (b == 91) _ _ tt (either_sign (b == 93) _ _ tt
    (either_sign (b == 44) _ _ tt (either_sign (b == 46) _ _ tt (either_sign (b == 64) _ _ tt (either_sign (b == 33) _ _ tt (either_sign (b == 38) _ _ tt
    (either_sign (b == 124) _ _ tt (either_sign (b == 45) _ _ tt (either_sign (b == 61) _ _ tt (either_sign (b == 60) _ _ tt (either_sign (b == 62) _ _ tt tt)))))))))))))

equals-sound : (b : ℕ) → IsSoundSign (with_equals b)
unfolding with_equals
equals-sound b = either_sign (b == 33) _ _ tt (either_sign (b == 60) _ _ tt (either_sign (b == 62) _ _ tt tt))

longer-sound : (two one : Option Kind) → IsSoundSign two → IsSoundSign one → IsSoundFront (longer_of two one)
longer-sound (Some two) one h k = h
longer-sound None (Some one) h k = k
longer-sound None None h k = tt

whole-sound : (text : List ℕ) (r : Option (ℤ × List ℕ)) → signed_at text ≡ r → IsSomeFit (whole r)
whole-sound text None e = tt
whole-sound text (Some (z, [])) e = (signed_takes text z [] e).fits
whole-sound text (Some (z, b ∷ bs)) e = tt

word-sound : (text : List ℕ) (extra : ℕ) → IsSoundFront (word_front text extra)
unfolding word_front
word-sound text extra = elim (cases_Bool (is_name (take (extra + 1) text))) [
  | inl named ↦ rw named named
  | inr other ↦ rw other tt
]

front-sound : (text : List ℕ) → IsSoundFront (front text)
unfolding front number_front sign_front
front-sound [] = tt
front-sound (b ∷ rest) = either_front (is_blank b) _ _ tt (either_front (is_name_start b) _ _ (word-sound (b ∷ rest) (run_of is_name_byte rest))
    (either_front (leads_number b rest) _ _ (either_front (begins_number b rest) _ _ (whole-sound _ _ refl) tt)
    (longer-sound _ _ (either_sign (starts_with 61 rest) _ _ (equals-sound b) tt) (sign-sound b))))

-- ---- the tokens

lexed-sound : (f : Front) (at : ℕ) (onward : ℕ → Lexed) → IsSoundFront f → ((extra : ℕ) → AreSound (onward extra).tokens) → AreSound (lex_front f at onward).tokens
lexed-sound at_front.Blank at onward h ih = ih 0
lexed-sound (at_front.Token k extra) at onward h ih = (h, ih extra)
lexed-sound at_front.Bad at onward h ih = tt

from-sound : (passed at : ℕ) (text : List ℕ) → AreSound (lex_from passed at text).tokens
unfolding lex_from
from-sound passed at [] = tt
from-sound zero at (x ∷ xs) = lexed-sound (front (x ∷ xs)) at _ (front-sound (x ∷ xs)) (λ extra. from-sound extra (at + 1) xs)
from-sound (suc passed) at (x ∷ xs) = from-sound passed (at + 1) xs

pub lex-sound : (text : List ℕ) → AreSound (lex text).tokens
lex-sound text = from-sound 0 0 text

-- ---- what is read of them

number-fits : (value : Option ℤ) → IsSomeFit value → FitsSigned w64 (number_of value)
number-fits (Some value) h = h
number-fits None h = omega (arith, ints)

count-fits : (value : Option ℤ) → IsSomeFit value → FitsSigned w64 (pos (count_of value))
count-fits (Some (pos k)) h = h
count-fits (Some (negsuc k)) h = omega (arith, ints)
count-fits None h = omega (arith, ints)

side-spelled : (r : RightSide) (rest : List Token) → AreSound (text_side r rest) → IsSide (plain_side (side_of r)) × AreSound rest
side-spelled (grammar.number value at) rest h = (number-fits value h.0, h.1)
side-spelled (grammar.variable v) rest h = ((h.0, h.1.1.0), h.1.1.1)

leaf-spelled : (l : Leaf) (rest : List Token) → AreSound (text_leaf l rest) → IsAtom (plain_atom (atom_of l)) × AreSound rest
leaf-spelled (constant value name at) rest h = (tt, h.1)
leaf-spelled (comparison left compare at right) rest h =
    let side = side-spelled right rest h.1.1.1.1 in
    ((h.0, h.1.1.0, side.0), side.1)
leaf-spelled (watch process at name) rest h = ((h.0, h.1.1.0), h.1.1.1)
leaf-spelled (transit name at channel compare compare_at value value_at) rest h =
    ((h.1.1.0, h.1.1.1.1.0, count-fits value h.1.1.1.1.1.1.1.0), h.1.1.1.1.1.1.1.1)
leaf-spelled (emptiness name at channel) rest h = ((h.1.1.0, h.1.1.1.1.0), h.1.1.1.1.1.1)
leaf-spelled (difference left minus right compare compare_at value value_at) rest h =
    ((h.0, h.1.1.0, h.1.1.1.1.0, h.1.1.1.1.1.1.0, number-fits value h.1.1.1.1.1.1.1.1.0), h.1.1.1.1.1.1.1.1.1)

mutual
  pub disjunction-spelled : (d : Disjunction) (rest : List Token) → AreSound (text_disjunction d rest) → IsSpellable (shape_disjunction d) × AreSound rest
  disjunction-spelled (one_conjunction c) rest h = conjunction-spelled c rest h
  disjunction-spelled (or d at c) rest h =
      let front = disjuncts-spelled d _ h in
      let last = conjunction-spelled c rest front.1.1 in
      ((front.0, last.0), last.1)

  disjuncts-spelled : (d : Disjunction) (rest : List Token) → AreSound (text_disjunction d rest) → AreSpellable (disjunct_shapes d) × AreSound rest
  disjuncts-spelled (one_conjunction c) rest h = conjunction-spelled c rest h
  disjuncts-spelled (or d at c) rest h =
      let front = disjuncts-spelled d _ h in
      let last = conjunction-spelled c rest front.1.1 in
      ((front.0, last.0), last.1)

  conjunction-spelled : (c : Conjunction) (rest : List Token) → AreSound (text_conjunction c rest) → IsSpellable (shape_conjunction c) × AreSound rest
  conjunction-spelled (one_unary u) rest h = unary-spelled u rest h
  conjunction-spelled (and c at u) rest h =
      let front = conjuncts-spelled c _ h in
      let last = unary-spelled u rest front.1.1 in
      ((front.0, last.0), last.1)

  conjuncts-spelled : (c : Conjunction) (rest : List Token) → AreSound (text_conjunction c rest) → AreSpellable (conjunct_shapes c) × AreSound rest
  conjuncts-spelled (one_unary u) rest h = unary-spelled u rest h
  conjuncts-spelled (and c at u) rest h =
      let front = conjuncts-spelled c _ h in
      let last = unary-spelled u rest front.1.1 in
      ((front.0, last.0), last.1)

  unary-spelled : (u : Unary) (rest : List Token) → AreSound (text_unary u rest) → IsSpellable (shape_unary u) × AreSound rest
  unary-spelled (leaf l) rest h = leaf-spelled l rest h
  unary-spelled (negation at u) rest h = unary-spelled u rest h.1
  unary-spelled (temporal operator name at u) rest h = unary-spelled u rest h.1
  unary-spelled (stepping name at process u) rest h =
      let inner = unary-spelled u rest h.1.1 in
      ((h.1.0, inner.0), inner.1)
  unary-spelled (group opened d closed) rest h =
      let inner = disjunction-spelled d _ h.1 in
      (inner.0, inner.1.1)
  unary-spelled (until path left name at right closed) rest h =
      let first = disjunction-spelled left _ h.1.1 in
      let second = disjunction-spelled right _ first.1.1 in
      ((first.0, second.0), second.1.1)
