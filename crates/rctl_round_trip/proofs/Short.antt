-- The canonical text of a shape is short, by the number of its nodes.
use Rattle.std.proofs.Common.{◌≡◌, ℕ, suc, ◌+◌, ◌*◌, ◌^◌, ◌<◌, ◌≤◌, Bool, true, false, List, [], ◌∷◌, length, arith, length-append}
use Rattle.std.specs.Prelude.{ℤ, pos, negsuc, nat_lt, FitsSigned}
use Rattle.std.specs.Int.{w64}
use Rattle.std.specs.Fmt.{decimal, signed_decimal}
use Rattle.std.proofs.lemmas.Fmt.{length-decimal-le}
use Rattle.std.proofs.lemmas.Int.{ints}
use Rattle.std.proofs.lemmas.Bool.{and_parts, ltb-true}
use Rattle.run_model.specs.Run.{Name}
use Rattle.run_model.specs.Formula as model
use Rattle.pota_base.specs.Limits.{longest_lexed, longest_name, most_nodes}
use Rattle.pota_names.specs.Names.{is_name, is_name_start}
use Rattle.rctl_grammar.specs.declared.tree.Compare.{Compare}
use Rattle.rctl_grammar.specs.declared.tree.Compare.TheVariants as compare
use Rattle.rctl_grammar.specs.Grammar.{operator_of}
use Rattle.rctl_grammar.specs.Shape as shape
use Rattle.rctl_grammar.specs.Shape.{PlainSide, PlainAtom, truth, comparison, watch, transit, emptiness, difference, Shape, plain, not, conjunction, disjunction, under, stepped, until_of, Shapes, one, more}
use Rattle.rctl_print.specs.Canonical.{canonical, joined, needs_brackets, bracketed_if, joint_text, operator_word, until_word, sign_of, side_text, atom_text}
use Rattle.rctl_print.specs.declared.joint.Joint.{Joint}
use Rattle.rctl_print.specs.declared.joint.Joint.TheVariants.{Amp, Bar}
use Rattle.rctl_round_trip.proofs.Measures.{own_node, nodes, nodes_joined}
use Rattle.rctl_round_trip.proofs.Texts.{IsSide, IsAtom, IsSpellable, AreSpellable}

decimal-short : (n : ℕ) → n < 2 ^ 64 → length (decimal n) ≤ 20
decimal-short n fits = length-decimal-le 20 n (omega arith) (omega arith) fits

signed-short : (z : ℤ) → FitsSigned w64 z → length (signed_decimal z) ≤ 21
signed-short (pos n) fits = let bound : n < 2 ^ 64 = omega (arith, ints) in omega (arith, decimal-short n bound)
signed-short (negsuc n) fits = let bound : suc n < 2 ^ 64 = omega (arith, ints) in omega (arith, decimal-short (suc n) bound)

name-short : (name : Name) → is_name name ≡ true → length name ≤ longest_name
name-short [] h = absurd cc
name-short (b ∷ bs) h =
    let tail = (and_parts (is_name_start b) _ h).1 in
    let few = ltb-true _ _ (and_parts (nat_lt (length bs) longest_name) _ tail).0 in
    omega arith

sign-short : (c : Compare) → length (sign_of c) ≤ 2
sign-short compare.Eq = omega arith
sign-short compare.Ne = omega arith
sign-short compare.Lt = omega arith
sign-short compare.Le = omega arith
sign-short compare.Gt = omega arith
sign-short compare.Ge = omega arith

operator-short : (o : model.Operator) → length (operator_word (operator_of o)) ≤ 2
operator-short model.Ef = omega arith
operator-short model.Ag = omega arith
operator-short model.Eg = omega arith
operator-short model.Af = omega arith
operator-short model.Ax = omega arith

until-short : (all : Bool) → length (until_word all) ≤ 1
until-short true = omega arith
until-short false = omega arith

joint-short : (joint : Joint) → length (joint_text joint) ≤ 3
joint-short Amp = omega arith
joint-short Bar = omega arith

side-short : (right : PlainSide) → IsSide right → length (side_text right) ≤ 129
side-short (shape.number value) h = omega (arith, signed-short value h)
side-short (shape.variable process name) h = simp length-append (omega (arith, name-short process h.0, name-short name h.1))

atom-short : (a : PlainAtom) → IsAtom a → length (atom_text a) ≤ 290
atom-short (truth true) h = omega arith
atom-short (truth false) h = omega arith
atom-short (comparison process name compare right) h =
    simp length-append (omega (arith, name-short process h.0, name-short name h.1, sign-short compare, side-short right h.2))
atom-short (watch process name) h = simp length-append (omega (arith, name-short process h.0, name-short name h.1))
atom-short (transit sender receiver compare k) h =
    let bound : k < 2 ^ 64 = omega (arith, ints, h.2) in
    simp length-append (omega (arith, name-short sender h.0, name-short receiver h.1, sign-short compare, decimal-short k bound))
atom-short (emptiness sender receiver) h = simp length-append (omega (arith, name-short sender h.0, name-short receiver h.1))
atom-short (difference left_process left right_process right compare k) h =
    simp length-append (omega (arith, name-short left_process h.0, name-short left h.1, name-short right_process h.2, name-short right h.3, sign-short compare, signed-short k h.4))

bracketed-short : (b : Bool) (text : List ℕ) → length (bracketed_if b text) ≤ length text + 2
bracketed-short true text = simp length-append (omega arith)
bracketed-short false text = omega arith

-- room for brackets and a joint is left
mutual
  text-short : (s : Shape) → IsSpellable s → length (canonical s) + 5 ≤ 300 * nodes s
  text-short (plain a) h = omega (arith, atom-short a h)
  text-short (not s) h = simp length-append (omega (arith, bracketed-short (needs_brackets Amp s) (canonical s), text-short s h))
  text-short (conjunction front last) h =
      simp length-append (omega (arith, joined-short Amp front h.0, bracketed-short (needs_brackets Amp last) (canonical last), text-short last h.1))
  text-short (disjunction front last) h =
      simp length-append (omega (arith, joined-short Bar front h.0, bracketed-short (needs_brackets Bar last) (canonical last), text-short last h.1))
  text-short (under o s) h =
      simp length-append (omega (arith, operator-short o, bracketed-short (needs_brackets Amp s) (canonical s), text-short s h))
  text-short (stepped process s) h =
      simp length-append (omega (arith, name-short process h.0, bracketed-short (needs_brackets Amp s) (canonical s), text-short s h.1))
  text-short (until_of all left right) h = simp length-append (omega (arith, until-short all, text-short left h.0, text-short right h.1))

  joined-short : (joint : Joint) (front : Shapes) → AreSpellable front → length (joined joint front) + 100 ≤ 300 * (nodes_joined front + own_node front)
  joined-short joint (one s) h = omega (arith, bracketed-short (needs_brackets joint s) (canonical s), text-short s h)
  joined-short joint (more front s) h =
      simp length-append (omega (arith, joined-short joint front h.0, joint-short joint, bracketed-short (needs_brackets joint s) (canonical s), text-short s h.1))

pub printed-short : (s : Shape) → IsSpellable s → nodes s ≤ most_nodes → length (canonical s) < longest_lexed
printed-short s h few = omega (arith, text-short s h)
