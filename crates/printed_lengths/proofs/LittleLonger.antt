-- The canonical text is longer than the text that was read by at most 50 bytes a node: the names of
-- both are the same, and all else is short.
use Rattle.std.proofs.Common.{◌≡◌, ℕ, zero, suc, ◌+◌, ◌-◌, ◌*◌, ◌^◌, ◌<◌, ◌≤◌, Bool, true, false, List, [], ◌∷◌, length, take, refl, sym, ap, subst, ◌∙◌, Option, Some, None, arith, length-append}
use Rattle.std.specs.Prelude.{ℤ, pos, negsuc, ◌==◌, FitsSigned, if◌then◌else◌}
use Rattle.std.specs.Int.{w64}
use Rattle.std.specs.Fmt.{decimal, signed_decimal}
use Rattle.std.proofs.lemmas.Fmt.{length-decimal-le}
use Rattle.std.proofs.lemmas.Int.{ints}
use Rattle.std.proofs.lemmas.List.{length-take}
use Rattle.run_model.specs.Formula as model
use Rattle.pota_base.specs.Limits.{most_nodes}
use Rattle.pota_names.specs.Names.{is_name, is_name_start, is_name_byte}
use Rattle.rctl_grammar.specs.declared.token.Kind.{Kind}
use Rattle.rctl_grammar.specs.declared.token.Kind.TheVariants as kind
use Rattle.rctl_grammar.specs.declared.token.Word.TheVariants as word
use Rattle.rctl_grammar.specs.declared.token.Token.{Token}
use Rattle.rctl_grammar.specs.declared.tree.Compare.{Compare}
use Rattle.rctl_grammar.specs.declared.tree.Compare.TheVariants as compare
use Rattle.rctl_grammar.specs.Grammar as grammar
use Rattle.rctl_grammar.specs.Grammar.{RightSide, Leaf, constant, comparison, watch, transit, emptiness, difference, Disjunction, one_conjunction, or, Conjunction, one_unary, and, Unary, leaf, negation, temporal, stepping, group, until, operator_of, side_of, atom_of, text_side, text_leaf, text_disjunction, text_conjunction, text_unary}
use Rattle.rctl_grammar.specs.Shape as shape
use Rattle.rctl_grammar.specs.Shape.{PlainSide, PlainAtom, Shape, plain, not, conjunction, disjunction, under, stepped, until_of, Shapes, one, more, plain_side, plain_atom, shape_of, shape_disjunction, disjunct_shapes, shape_conjunction, conjunct_shapes, shape_unary}
use Rattle.rctl_grammar.proofs.Shapes.{tree-disjunction}
use Rattle.rctl_lexer.specs.declared.front.Front.{Front}
use Rattle.rctl_lexer.specs.declared.front.Front.TheVariants as at_front
use Rattle.rctl_lexer.specs.declared.lexer.Lexed.{Lexed}
use Rattle.rctl_lexer.specs.Front.{front, is_blank, starts_with, leads_number, begins_number, sign_of, with_equals, longer_of, sign_front, word_front, number_front}
use Rattle.rctl_lexer.specs.Lexing.{lex, lex_from, lex_front}
use Rattle.rctl_lexer.specs.Runs.{run_of}
use Rattle.rctl_print.specs.Canonical as printed
use Rattle.rctl_print.specs.Canonical.{canonical, joined, needs_brackets, bracketed_if, joint_text, operator_word, until_word, side_text, atom_text}
use Rattle.rctl_print.specs.declared.joint.Joint.{Joint}
use Rattle.rctl_print.specs.declared.joint.Joint.TheVariants.{Amp, Bar}
use Rattle.rctl_round_trip.proofs.Measures.{own_node, nodes, nodes_joined}
use Rattle.rctl_round_trip.proofs.Texts.{IsSide, IsAtom, IsSpellable, AreSpellable}
use Rattle.rctl_round_trip.proofs.Origin.{nodes-disjunction}
use Rattle.rctl_round_trip.proofs.Sound.{AreSound, lex-sound, disjunction-spelled}
use Rattle.printed_lengths.specs.Lengths.{PrintedIsLittleLonger}

-- ---- what is short

decimal-short : (n : ℕ) → n < 2 ^ 64 → length (decimal n) ≤ 20
decimal-short n fits = length-decimal-le 20 n (omega arith) (omega arith) fits

signed-short : (z : ℤ) → FitsSigned w64 z → length (signed_decimal z) ≤ 21
signed-short (pos n) fits = let bound : n < 2 ^ 64 = omega (arith, ints) in omega (arith, decimal-short n bound)
signed-short (negsuc n) fits = let bound : suc n < 2 ^ 64 = omega (arith, ints) in omega (arith, decimal-short (suc n) bound)

sign-short : (c : Compare) → length (printed.sign_of c) ≤ 2
sign-short compare.Eq = omega arith
sign-short compare.Ne = omega arith
sign-short compare.Lt = omega arith
sign-short compare.Le = omega arith
sign-short compare.Gt = omega arith
sign-short compare.Ge = omega arith

operator-short : (o : model.Operator) → length (operator_word (operator_of o)) ≤ 2
operator-short model.Ef = omega arith
operator-short model.Ag = omega arith
operator-short model.Eg = omega arith
operator-short model.Af = omega arith
operator-short model.Ax = omega arith

until-short : (all : Bool) → length (until_word all) ≤ 1
until-short true = omega arith
until-short false = omega arith

joint-short : (joint : Joint) → length (joint_text joint) ≤ 3
joint-short Amp = omega arith
joint-short Bar = omega arith

bracketed-short : (b : Bool) (text : List ℕ) → length (bracketed_if b text) ≤ length text + 2
bracketed-short true text = simp length-append (omega arith)
bracketed-short false text = omega arith

-- ---- the bytes of the names

abbrev side_names : PlainSide → ℕ
side_names (shape.number value) = 0
side_names (shape.variable process name) = length process + length name

abbrev atom_names : PlainAtom → ℕ
atom_names (shape.truth value) = 0
atom_names (shape.comparison process name compare right) = length process + length name + side_names right
atom_names (shape.watch process name) = length process + length name
atom_names (shape.transit sender receiver compare k) = length sender + length receiver
atom_names (shape.emptiness sender receiver) = length sender + length receiver
atom_names (shape.difference left_process left right_process right compare k) = length left_process + length left + (length right_process + length right)

abbrev mutual
  names : Shape → ℕ
  names (plain a) = atom_names a
  names (not s) = names s
  names (conjunction front last) = names_joined front + names last
  names (disjunction front last) = names_joined front + names last
  names (under operator s) = names s
  names (stepped process s) = length process + names s
  names (until_of all left right) = names left + names right

  names_joined : Shapes → ℕ
  names_joined (one s) = names s
  names_joined (more front s) = names_joined front + names s

abbrev width : Kind → ℕ
width (kind.Word w name) = length name
width k = 0

abbrev widths : List Token → ℕ
widths [] = 0
widths (t ∷ ts) = width t.kind + widths ts

-- ---- the words of a text are within it

abbrev FitsFront : ℕ → Front → Type 0
FitsFront len at_front.Blank = Unit {0}
FitsFront len (at_front.Token k extra) = (width k ≤ extra + 1) × (width k ≤ len)
FitsFront len at_front.Bad = Unit {0}

abbrev IsThin : Option Kind → Type 0
IsThin None = Unit {0}
IsThin (Some k) = width k ≡ 0

either_sign : (b : Bool) (x y : Option Kind) → IsThin x → IsThin y → IsThin (if b then x else y)
either_sign true x y h k = h
either_sign false x y h k = k

either_front : (len : ℕ) (b : Bool) (x y : Front) → FitsFront len x → FitsFront len y → FitsFront len (if b then x else y)
either_front len true x y h k = h
either_front len false x y h k = k

sign-thin : (b : ℕ) → IsThin (sign_of b)
unfolding sign_of
sign-thin b = either_sign (b == 40) _ _ refl (either_sign (b == 41) _ _ refl (either_sign (b == 91) _ _ refl (either_sign (b == 93) _ _ refl
    (either_sign (b == 44) _ _ refl (either_sign (b == 46) _ _ refl (either_sign (b == 64) _ _ refl (either_sign (b == 33) _ _ refl (either_sign (b == 38) _ _ refl
    (either_sign (b == 124) _ _ refl (either_sign (b == 45) _ _ refl (either_sign (b == 61) _ _ refl (either_sign (b == 60) _ _ refl (either_sign (b == 62) _ _ refl tt)))))))))))))

equals-thin : (b : ℕ) → IsThin (with_equals b)
unfolding with_equals
equals-thin b = either_sign (b == 33) _ _ refl (either_sign (b == 60) _ _ refl (either_sign (b == 62) _ _ refl tt))

longer-fits : (len : ℕ) (two single : Option Kind) → IsThin two → IsThin single → FitsFront len (longer_of two single)
longer-fits len (Some two) single h k = (omega (arith, h), omega (arith, h))
longer-fits len None (Some single) h k = (omega (arith, k), omega (arith, k))
longer-fits len None None h k = tt

taken-fits : (text : List ℕ) (extra : ℕ) → (length (take (extra + 1) text) ≤ extra + 1) × (length (take (extra + 1) text) ≤ length text)
taken-fits text extra = (omega (arith, length-take (extra + 1) text), omega (arith, length-take (extra + 1) text))

word-fits : (text : List ℕ) (extra : ℕ) → FitsFront (length text) (word_front text extra)
unfolding word_front
word-fits text extra = either_front (length text) (is_name (take (extra + 1) text)) _ _ (taken-fits text extra) tt

front-fits : (text : List ℕ) → FitsFront (length text) (front text)
unfolding front number_front sign_front
front-fits [] = tt
front-fits (b ∷ rest) = either_front _ (is_blank b) _ _ tt (either_front _ (is_name_start b) _ _ (word-fits (b ∷ rest) (run_of is_name_byte rest))
    (either_front _ (leads_number b rest) _ _ (either_front _ (begins_number b rest) _ _ (omega arith, omega arith) tt)
    (longer-fits _ _ _ (either_sign (starts_with 61 rest) _ _ (equals-thin b) tt) (sign-thin b))))

lexed-fits : (f : Front) (at len : ℕ) (onward : ℕ → Lexed) → FitsFront (suc len) f → ((extra : ℕ) → widths (onward extra).tokens ≤ len - extra) → widths (lex_front f at onward).tokens ≤ suc len - 0
lexed-fits at_front.Blank at len onward h ih = omega (arith, ih 0)
lexed-fits (at_front.Token k extra) at len onward h ih = omega (arith, h.0, h.1, ih extra)
lexed-fits at_front.Bad at len onward h ih = omega arith

from-fits : (passed at : ℕ) (text : List ℕ) → widths (lex_from passed at text).tokens ≤ length text - passed
unfolding lex_from
from-fits passed at [] = omega arith
from-fits zero at (x ∷ xs) = lexed-fits (front (x ∷ xs)) at (length xs) _ (front-fits (x ∷ xs)) (λ extra. from-fits extra (at + 1) xs)
from-fits (suc passed) at (x ∷ xs) = omega (arith, from-fits passed (at + 1) xs)

lex-fits : (text : List ℕ) → widths (lex text).tokens ≤ length text
lex-fits text = omega (arith, from-fits 0 0 text)

-- ---- the names of what is read are words of the text

side-names : (r : RightSide) (rest : List Token) → side_names (plain_side (side_of r)) + widths rest ≤ widths (text_side r rest)
side-names (grammar.number value at) rest = omega arith
side-names (grammar.variable v) rest = omega arith

leaf-names : (l : Leaf) (rest : List Token) → atom_names (plain_atom (atom_of l)) + widths rest ≤ widths (text_leaf l rest)
leaf-names (constant value name at) rest = omega arith
leaf-names (comparison left compare at right) rest = omega (arith, side-names right rest)
leaf-names (watch process at name) rest = omega arith
leaf-names (transit name at channel compare compare_at value value_at) rest = omega arith
leaf-names (emptiness name at channel) rest = omega arith
leaf-names (difference left minus right compare compare_at value value_at) rest = omega arith

mutual
  disjunction-names : (d : Disjunction) (rest : List Token) → names (shape_disjunction d) + widths rest ≤ widths (text_disjunction d rest)
  disjunction-names (one_conjunction c) rest = conjunction-names c rest
  disjunction-names (or d at c) rest = omega (arith, disjuncts-names d (grammar.tok kind.Bar at ∷ text_conjunction c rest), conjunction-names c rest)

  disjuncts-names : (d : Disjunction) (rest : List Token) → names_joined (disjunct_shapes d) + widths rest ≤ widths (text_disjunction d rest)
  disjuncts-names (one_conjunction c) rest = conjunction-names c rest
  disjuncts-names (or d at c) rest = omega (arith, disjuncts-names d (grammar.tok kind.Bar at ∷ text_conjunction c rest), conjunction-names c rest)

  conjunction-names : (c : Conjunction) (rest : List Token) → names (shape_conjunction c) + widths rest ≤ widths (text_conjunction c rest)
  conjunction-names (one_unary u) rest = unary-names u rest
  conjunction-names (and c at u) rest = omega (arith, conjuncts-names c (grammar.tok kind.Amp at ∷ text_unary u rest), unary-names u rest)

  conjuncts-names : (c : Conjunction) (rest : List Token) → names_joined (conjunct_shapes c) + widths rest ≤ widths (text_conjunction c rest)
  conjuncts-names (one_unary u) rest = unary-names u rest
  conjuncts-names (and c at u) rest = omega (arith, conjuncts-names c (grammar.tok kind.Amp at ∷ text_unary u rest), unary-names u rest)

  unary-names : (u : Unary) (rest : List Token) → names (shape_unary u) + widths rest ≤ widths (text_unary u rest)
  unary-names (leaf l) rest = leaf-names l rest
  unary-names (negation at u) rest = omega (arith, unary-names u rest)
  unary-names (temporal operator name at u) rest = omega (arith, unary-names u rest)
  unary-names (stepping name at process u) rest = omega (arith, unary-names u rest)
  unary-names (group opened d closed) rest = omega (arith, disjunction-names d (grammar.tok kind.CloseRound closed ∷ rest))
  unary-names (until path left name at right closed) rest =
      let second = disjunction-names right (grammar.tok kind.CloseSquare closed ∷ rest) in
      let first = disjunction-names left (grammar.spelled word.U name at ∷ text_disjunction right (grammar.tok kind.CloseSquare closed ∷ rest)) in
      omega (arith, first, second)

-- ---- the text by its names

side-near : (right : PlainSide) → IsSide right → length (side_text right) ≤ side_names right + 21
side-near (shape.number value) h = omega (arith, signed-short value h)
side-near (shape.variable process name) h = simp length-append (omega arith)

atom-near : (a : PlainAtom) → IsAtom a → length (atom_text a) ≤ atom_names a + 40
atom-near (shape.truth true) h = omega arith
atom-near (shape.truth false) h = omega arith
atom-near (shape.comparison process name compare right) h = simp length-append (omega (arith, sign-short compare, side-near right h.2))
atom-near (shape.watch process name) h = simp length-append (omega arith)
atom-near (shape.transit sender receiver compare k) h =
    let bound : k < 2 ^ 64 = omega (arith, ints, h.2) in
    simp length-append (omega (arith, sign-short compare, decimal-short k bound))
atom-near (shape.emptiness sender receiver) h = simp length-append (omega arith)
atom-near (shape.difference left_process left right_process right compare k) h = simp length-append (omega (arith, sign-short compare, signed-short k h.4))

mutual
  text-near : (s : Shape) → IsSpellable s → length (canonical s) + 5 ≤ names s + 50 * nodes s
  text-near (plain a) h = omega (arith, atom-near a h)
  text-near (not s) h = simp length-append (omega (arith, bracketed-short (needs_brackets Amp s) (canonical s), text-near s h))
  text-near (conjunction front last) h =
      simp length-append (omega (arith, joined-near Amp front h.0, bracketed-short (needs_brackets Amp last) (canonical last), text-near last h.1))
  text-near (disjunction front last) h =
      simp length-append (omega (arith, joined-near Bar front h.0, bracketed-short (needs_brackets Bar last) (canonical last), text-near last h.1))
  text-near (under o s) h =
      simp length-append (omega (arith, operator-short o, bracketed-short (needs_brackets Amp s) (canonical s), text-near s h))
  text-near (stepped process s) h =
      simp length-append (omega (arith, bracketed-short (needs_brackets Amp s) (canonical s), text-near s h.1))
  text-near (until_of all left right) h = simp length-append (omega (arith, until-short all, text-near left h.0, text-near right h.1))

  joined-near : (joint : Joint) (front : Shapes) → AreSpellable front → length (joined joint front) + 20 ≤ names_joined front + 50 * (nodes_joined front + own_node front)
  joined-near joint (one s) h = omega (arith, bracketed-short (needs_brackets joint s) (canonical s), text-near s h)
  joined-near joint (more front s) h =
      simp length-append (omega (arith, joined-near joint front h.0, joint-short joint, bracketed-short (needs_brackets joint s) (canonical s), text-near s h.1))

shape-near : (text : List ℕ) (d : Disjunction) → text_disjunction d [] ≡ (lex text).tokens → IsSpellable (shape_disjunction d) → nodes (shape_disjunction d) ≤ most_nodes
    → length (canonical (shape_disjunction d)) + 5 ≤ length text + 3200
shape-near text d is h few =
    let words = disjunction-names d [] in
    let within : widths (text_disjunction d []) ≤ length text = subst (λ (ts : List Token). widths ts ≤ length text) (sym is) (lex-fits text) in
    omega (arith, words, within, text-near (shape_disjunction d) h)

-- ---- of what was read

pub printed_near : PrintedIsLittleLonger
printed_near text t r =
    let spelled : IsSpellable (shape_disjunction r.d) = (disjunction-spelled r.d [] (subst AreSound (sym r.text) (lex-sound text))).0 in
    let is : shape_of t ≡ shape_disjunction r.d = ap shape_of (sym r.tree) ∙ tree-disjunction r.d in
    let few : nodes (shape_disjunction r.d) ≤ most_nodes = omega (arith, nodes-disjunction r.d, r.limits.nodes) in
    subst (λ (s : Shape). length (canonical s) ≤ length text + 3195) (sym is) (omega (arith, shape-near text r.d r.text spelled few))
