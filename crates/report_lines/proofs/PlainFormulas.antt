-- No canonical text of a formula holds a line feed.
use Rattle.std.proofs.Common.{◌≡◌, ℕ, ◌+◌, ◌^◌, ◌<◌, ◌≤◌, Bool, true, false, List, [], ◌∷◌, ◌++◌, refl, sym, ap, subst, ◌∙◌, arith}
use Rattle.std.specs.Prelude.{pos, codes}
use Rattle.std.specs.List.{AllByRecursion}
use Rattle.std.specs.Fmt.{decimal, signed_decimal}
use Rattle.std.proofs.lemmas.Int.{ints}
use Rattle.pota_names.specs.Names.{is_name}
use Rattle.rctl_grammar.specs.declared.tree.Compare.{Compare}
use Rattle.rctl_grammar.specs.declared.tree.Compare.TheVariants as compare
use Rattle.rctl_grammar.specs.declared.tree.Operator.{Operator}
use Rattle.rctl_grammar.specs.declared.tree.Operator.TheVariants as operator
use Rattle.rctl_grammar.specs.Shape as shape
use Rattle.rctl_grammar.specs.Grammar.{operator_of}
use Rattle.rctl_grammar.specs.Shape.{PlainSide, PlainAtom, truth, comparison, watch, transit, emptiness, difference, Shape, plain, not, conjunction, disjunction, under, stepped, until_of, Shapes, one, more, shape_of, shape_disjunction}
use Rattle.rctl_grammar.proofs.Shapes.{tree-disjunction}
use Rattle.rctl_lexer.specs.Lexing.{lex}
use Rattle.rctl_print.specs.Canonical.{canonical, joined, needs_brackets, bracketed_if, joint_text, operator_word, until_word, sign_of, side_text, atom_text, channel_text, spaced}
use Rattle.rctl_print.specs.declared.joint.Joint.{Joint}
use Rattle.rctl_print.specs.declared.joint.Joint.TheVariants.{Amp, Bar}
use Rattle.rctl_round_trip.proofs.Texts.{IsSide, IsAtom, IsSpellable, AreSpellable}
use Rattle.rctl_round_trip.proofs.Sound.{AreSound, lex-sound, disjunction-spelled}
use Rattle.event_log.specs.Moments.{IsPlainByte, HasNoFeed}
use Rattle.event_log.proofs.Lists.{all_append}
use Rattle.event_log.proofs.Plain.{decimal_plain, signed_plain, name_plain}
use Rattle.report_lines.specs.Formula.{IsCanonical}

both : (xs ys : List ℕ) → HasNoFeed xs → HasNoFeed ys → HasNoFeed (xs ++ ys)
both xs ys = all_append IsPlainByte xs ys

sign-plain : (c : Compare) → HasNoFeed (sign_of c)
sign-plain compare.Eq = (refl, tt)
sign-plain compare.Ne = (refl, (refl, tt))
sign-plain compare.Lt = (refl, tt)
sign-plain compare.Le = (refl, (refl, tt))
sign-plain compare.Gt = (refl, tt)
sign-plain compare.Ge = (refl, (refl, tt))

operator-plain : (o : Operator) → HasNoFeed (operator_word o)
operator-plain operator.Ef = (refl, (refl, tt))
operator-plain operator.Ag = (refl, (refl, tt))
operator-plain operator.Eg = (refl, (refl, tt))
operator-plain (operator.Ex process) = (refl, (refl, (refl, tt)))
operator-plain operator.Af = (refl, (refl, tt))
operator-plain operator.Ax = (refl, (refl, tt))

until-plain : (all : Bool) → HasNoFeed (until_word all)
until-plain true = (refl, tt)
until-plain false = (refl, tt)

joint-plain : (joint : Joint) → HasNoFeed (joint_text joint)
joint-plain Amp = (refl, (refl, (refl, tt)))
joint-plain Bar = (refl, (refl, (refl, tt)))

spaced-plain : (c : Compare) → HasNoFeed (spaced c)
spaced-plain c = both (codes " " ++ sign_of c) (codes " ") (refl, sign-plain c) (refl, tt)

side-plain : (right : PlainSide) → IsSide right → HasNoFeed (side_text right)
side-plain (shape.number value) h = signed_plain value h
side-plain (shape.variable process name) h = both (process ++ codes ".") name (both process (codes ".") (name_plain process h.0) (refl, tt)) (name_plain name h.1)

channel-plain : (sender receiver : List ℕ) → is_name sender ≡ true → is_name receiver ≡ true → HasNoFeed (channel_text sender receiver)
channel-plain sender receiver s r =
    both (codes "(" ++ sender ++ codes "," ++ receiver) (codes ")") (both (codes "(" ++ sender ++ codes ",") receiver (both (codes "(" ++ sender) (codes ",") (refl, name_plain sender s) (refl, tt)) (name_plain receiver r)) (refl, tt)

truth-plain : (value : Bool) → HasNoFeed (atom_text (truth value))
truth-plain true = (refl, (refl, (refl, (refl, tt))))
truth-plain false = (refl, (refl, (refl, (refl, (refl, tt)))))

atom-plain : (a : PlainAtom) → IsAtom a → HasNoFeed (atom_text a)
atom-plain (truth value) h = truth-plain value
atom-plain (comparison process name compare right) h =
    both (process ++ codes "." ++ name ++ spaced compare) (side_text right)
    (both (process ++ codes "." ++ name) (spaced compare) (both (process ++ codes ".") name (both process (codes ".") (name_plain process h.0) (refl, tt)) (name_plain name h.1)) (spaced-plain compare)) (side-plain right h.2)
atom-plain (watch process name) h = both (process ++ codes "@") name (both process (codes "@") (name_plain process h.0) (refl, tt)) (name_plain name h.1)
atom-plain (transit sender receiver compare k) h =
    let bound : k < 2 ^ 64 = omega (arith, ints, h.2) in
    both (codes "intransit" ++ channel_text sender receiver ++ spaced compare) (decimal k)
    (both (codes "intransit" ++ channel_text sender receiver) (spaced compare) (both (codes "intransit") (channel_text sender receiver) (refl, (refl, (refl, (refl, (refl, (refl, (refl, (refl, (refl, tt))))))))) (channel-plain sender receiver h.0 h.1)) (spaced-plain compare)) (decimal_plain k bound)
atom-plain (emptiness sender receiver) h = both (codes "empty") (channel_text sender receiver) (refl, (refl, (refl, (refl, (refl, tt))))) (channel-plain sender receiver h.0 h.1)
atom-plain (difference p x q y compare k) h =
    let left : HasNoFeed (p ++ codes "." ++ x) = both (p ++ codes ".") x (both p (codes ".") (name_plain p h.0) (refl, tt)) (name_plain x h.1) in
    let minus : HasNoFeed (p ++ codes "." ++ x ++ codes " - ") = both (p ++ codes "." ++ x) (codes " - ") left (refl, (refl, (refl, tt))) in
    let right : HasNoFeed (p ++ codes "." ++ x ++ codes " - " ++ q ++ codes "." ++ y) =
    both (p ++ codes "." ++ x ++ codes " - " ++ q ++ codes ".") y (both (p ++ codes "." ++ x ++ codes " - " ++ q) (codes ".") (both (p ++ codes "." ++ x ++ codes " - ") q minus (name_plain q h.2)) (refl, tt)) (name_plain y h.3) in
    both (p ++ codes "." ++ x ++ codes " - " ++ q ++ codes "." ++ y ++ spaced compare) (signed_decimal k)
    (both (p ++ codes "." ++ x ++ codes " - " ++ q ++ codes "." ++ y) (spaced compare) right (spaced-plain compare)) (signed_plain k h.4)

bracketed-plain : (b : Bool) (text : List ℕ) → HasNoFeed text → HasNoFeed (bracketed_if b text)
bracketed-plain true text h = both (codes "(" ++ text) (codes ")") (refl, h) (refl, tt)
bracketed-plain false text h = h

mutual
  text-plain : (s : Shape) → IsSpellable s → HasNoFeed (canonical s)
  text-plain (plain a) h = atom-plain a h
  text-plain (not s) h = (refl, bracketed-plain (needs_brackets Amp s) (canonical s) (text-plain s h))
  text-plain (conjunction front last) h =
      both (joined Amp front ++ joint_text Amp) (bracketed_if (needs_brackets Amp last) (canonical last)) (both (joined Amp front) (joint_text Amp) (joined-plain Amp front h.0) (joint-plain Amp)) (bracketed-plain (needs_brackets Amp last) (canonical last) (text-plain last h.1))
  text-plain (disjunction front last) h =
      both (joined Bar front ++ joint_text Bar) (bracketed_if (needs_brackets Bar last) (canonical last)) (both (joined Bar front) (joint_text Bar) (joined-plain Bar front h.0) (joint-plain Bar)) (bracketed-plain (needs_brackets Bar last) (canonical last) (text-plain last h.1))
  text-plain (under o s) h =
      both (operator_word (operator_of o) ++ codes " ") (bracketed_if (needs_brackets Amp s) (canonical s)) (both (operator_word (operator_of o)) (codes " ") (operator-plain (operator_of o)) (refl, tt)) (bracketed-plain (needs_brackets Amp s) (canonical s) (text-plain s h))
  text-plain (stepped process s) h =
      both (codes "EX " ++ process ++ codes " ") (bracketed_if (needs_brackets Amp s) (canonical s))
      (both (codes "EX " ++ process) (codes " ") (both (codes "EX ") process (refl, (refl, (refl, tt))) (name_plain process h.0)) (refl, tt)) (bracketed-plain (needs_brackets Amp s) (canonical s) (text-plain s h.1))
  text-plain (until_of all left right) h =
      both (until_word all ++ codes "[" ++ canonical left ++ codes " U " ++ canonical right) (codes "]")
      (both (until_word all ++ codes "[" ++ canonical left ++ codes " U ") (canonical right)
      (both (until_word all ++ codes "[" ++ canonical left) (codes " U ") (both (until_word all ++ codes "[") (canonical left) (both (until_word all) (codes "[") (until-plain all) (refl, tt)) (text-plain left h.0)) (refl, (refl, (refl, tt)))) (text-plain right h.1)) (refl, tt)

  joined-plain : (joint : Joint) (front : Shapes) → AreSpellable front → HasNoFeed (joined joint front)
  joined-plain joint (one s) h = bracketed-plain (needs_brackets joint s) (canonical s) (text-plain s h)
  joined-plain joint (more front s) h =
      both (joined joint front ++ joint_text joint) (bracketed_if (needs_brackets joint s) (canonical s)) (both (joined joint front) (joint_text joint) (joined-plain joint front h.0) (joint-plain joint)) (bracketed-plain (needs_brackets joint s) (canonical s) (text-plain s h.1))

pub canonical_plain : (text : List ℕ) → IsCanonical text → HasNoFeed text
canonical_plain text c =
    let spellable : IsSpellable (shape_disjunction c.read.d) = (disjunction-spelled c.read.d [] (subst AreSound (sym c.read.text) (lex-sound text))).0 in
    let shape : shape_of c.tree ≡ shape_disjunction c.read.d = ap shape_of (sym c.read.tree) ∙ tree-disjunction c.read.d in
    subst HasNoFeed (sym (ap canonical shape) ∙ c.printed) (text-plain (shape_disjunction c.read.d) spellable)
