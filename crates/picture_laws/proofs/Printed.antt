-- The canonical text of a formula has printed bytes alone.
use Rattle.std.proofs.Common.{◌≡◌, ℕ, ℤ, Bool, true, false, List, [], ◌++◌, refl, sym, ap, subst, ◌∙◌}
use Rattle.std.specs.Prelude.{codes}
use Rattle.std.specs.List.{list_all}
use Rattle.std.specs.Fmt.{decimal, signed_decimal}
use Rattle.pota_names.specs.Names.{is_name}
use Rattle.rctl_grammar.specs.declared.tree.Compare.{Compare}
use Rattle.rctl_grammar.specs.declared.tree.Compare.TheVariants as compare
use Rattle.rctl_grammar.specs.declared.tree.Operator.{Operator}
use Rattle.rctl_grammar.specs.declared.tree.Operator.TheVariants as operator
use Rattle.rctl_grammar.specs.Shape as shape
use Rattle.rctl_grammar.specs.Grammar.{operator_of}
use Rattle.rctl_grammar.specs.Shape.{PlainSide, PlainAtom, truth, comparison, watch, transit, emptiness, difference, Shape, plain, not, conjunction, disjunction, under, stepped, until_of, Shapes, one, more, shape_of, shape_disjunction}
use Rattle.rctl_grammar.proofs.Shapes.{tree-disjunction}
use Rattle.rctl_print.specs.Canonical.{canonical, joined, needs_brackets, bracketed_if, joint_text, operator_word, until_word, sign_of, side_text, atom_text, channel_text, spaced}
use Rattle.rctl_print.specs.declared.joint.Joint.{Joint}
use Rattle.rctl_print.specs.declared.joint.Joint.TheVariants.{Amp, Bar}
use Rattle.rctl_round_trip.proofs.Texts.{IsSide, IsAtom, IsSpellable, AreSpellable}
use Rattle.rctl_round_trip.proofs.Sound.{AreSound, lex-sound, disjunction-spelled}
use Rattle.report_lines.specs.Formula.{IsCanonical}
use Rattle.picture_laws.specs.Xml.{is_printed}
use Rattle.picture_laws.proofs.Plain as plainly

abbrev IsPrinted : List ℕ → Type 0
IsPrinted bytes = list_all is_printed bytes ≡ true

both : (xs ys : List ℕ) → IsPrinted xs → IsPrinted ys → IsPrinted (xs ++ ys)
both xs ys = plainly.both is_printed xs ys

number_printed : (n : ℕ) → IsPrinted (decimal n)
number_printed n = plainly.plain_is_printed (decimal n) (plainly.number_plain n)

signed_printed : (z : ℤ) → IsPrinted (signed_decimal z)
signed_printed z = plainly.plain_is_printed (signed_decimal z) (plainly.signed_plain z)

name_printed : (n : List ℕ) → is_name n ≡ true → IsPrinted n
name_printed n h = plainly.plain_is_printed n (plainly.name_plain n h)

sign_printed : (c : Compare) → IsPrinted (sign_of c)
sign_printed compare.Eq = refl
sign_printed compare.Ne = refl
sign_printed compare.Lt = refl
sign_printed compare.Le = refl
sign_printed compare.Gt = refl
sign_printed compare.Ge = refl

operator_printed : (o : Operator) → IsPrinted (operator_word o)
operator_printed operator.Ef = refl
operator_printed operator.Ag = refl
operator_printed operator.Eg = refl
operator_printed (operator.Ex process) = refl
operator_printed operator.Af = refl
operator_printed operator.Ax = refl

until_printed : (all : Bool) → IsPrinted (until_word all)
until_printed true = refl
until_printed false = refl

joint_printed : (joint : Joint) → IsPrinted (joint_text joint)
joint_printed Amp = refl
joint_printed Bar = refl

spaced_printed : (c : Compare) → IsPrinted (spaced c)
spaced_printed c = both (codes " " ++ sign_of c) (codes " ") (sign_printed c) refl

side_printed : (right : PlainSide) → IsSide right → IsPrinted (side_text right)
side_printed (shape.number value) h = signed_printed value
side_printed (shape.variable process name) h = both (process ++ codes ".") name (both process (codes ".") (name_printed process h.0) refl) (name_printed name h.1)

channel_printed : (sender receiver : List ℕ) → is_name sender ≡ true → is_name receiver ≡ true → IsPrinted (channel_text sender receiver)
channel_printed sender receiver s r =
    both (codes "(" ++ sender ++ codes "," ++ receiver) (codes ")") (both (codes "(" ++ sender ++ codes ",") receiver (both (codes "(" ++ sender) (codes ",") (name_printed sender s) refl) (name_printed receiver r)) refl

truth_printed : (value : Bool) → IsPrinted (atom_text (truth value))
truth_printed true = refl
truth_printed false = refl

atom_printed : (a : PlainAtom) → IsAtom a → IsPrinted (atom_text a)
atom_printed (truth value) h = truth_printed value
atom_printed (comparison process name compare right) h =
    both (process ++ codes "." ++ name ++ spaced compare) (side_text right)
    (both (process ++ codes "." ++ name) (spaced compare) (both (process ++ codes ".") name (both process (codes ".") (name_printed process h.0) refl) (name_printed name h.1)) (spaced_printed compare)) (side_printed right h.2)
atom_printed (watch process name) h = both (process ++ codes "@") name (both process (codes "@") (name_printed process h.0) refl) (name_printed name h.1)
atom_printed (transit sender receiver compare k) h =
    both (codes "intransit" ++ channel_text sender receiver ++ spaced compare) (decimal k)
    (both (codes "intransit" ++ channel_text sender receiver) (spaced compare) (both (codes "intransit") (channel_text sender receiver) refl (channel_printed sender receiver h.0 h.1)) (spaced_printed compare)) (number_printed k)
atom_printed (emptiness sender receiver) h = both (codes "empty") (channel_text sender receiver) refl (channel_printed sender receiver h.0 h.1)
atom_printed (difference p x q y compare k) h =
    let left : IsPrinted (p ++ codes "." ++ x) = both (p ++ codes ".") x (both p (codes ".") (name_printed p h.0) refl) (name_printed x h.1) in
    let minus : IsPrinted (p ++ codes "." ++ x ++ codes " - ") = both (p ++ codes "." ++ x) (codes " - ") left refl in
    let right : IsPrinted (p ++ codes "." ++ x ++ codes " - " ++ q ++ codes "." ++ y) =
    both (p ++ codes "." ++ x ++ codes " - " ++ q ++ codes ".") y (both (p ++ codes "." ++ x ++ codes " - " ++ q) (codes ".") (both (p ++ codes "." ++ x ++ codes " - ") q minus (name_printed q h.2)) refl) (name_printed y h.3) in
    both (p ++ codes "." ++ x ++ codes " - " ++ q ++ codes "." ++ y ++ spaced compare) (signed_decimal k)
    (both (p ++ codes "." ++ x ++ codes " - " ++ q ++ codes "." ++ y) (spaced compare) right (spaced_printed compare)) (signed_printed k)

bracketed_printed : (b : Bool) (text : List ℕ) → IsPrinted text → IsPrinted (bracketed_if b text)
bracketed_printed true text h = both (codes "(" ++ text) (codes ")") h refl
bracketed_printed false text h = h

mutual
  text_printed : (s : Shape) → IsSpellable s → IsPrinted (canonical s)
  text_printed (plain a) h = atom_printed a h
  text_printed (not s) h = bracketed_printed (needs_brackets Amp s) (canonical s) (text_printed s h)
  text_printed (conjunction front last) h =
      both (joined Amp front ++ joint_text Amp) (bracketed_if (needs_brackets Amp last) (canonical last)) (both (joined Amp front) (joint_text Amp) (joined_printed Amp front h.0) (joint_printed Amp)) (bracketed_printed (needs_brackets Amp last) (canonical last) (text_printed last h.1))
  text_printed (disjunction front last) h =
      both (joined Bar front ++ joint_text Bar) (bracketed_if (needs_brackets Bar last) (canonical last)) (both (joined Bar front) (joint_text Bar) (joined_printed Bar front h.0) (joint_printed Bar)) (bracketed_printed (needs_brackets Bar last) (canonical last) (text_printed last h.1))
  text_printed (under o s) h =
      both (operator_word (operator_of o) ++ codes " ") (bracketed_if (needs_brackets Amp s) (canonical s)) (both (operator_word (operator_of o)) (codes " ") (operator_printed (operator_of o)) refl) (bracketed_printed (needs_brackets Amp s) (canonical s) (text_printed s h))
  text_printed (stepped process s) h =
      both (codes "EX " ++ process ++ codes " ") (bracketed_if (needs_brackets Amp s) (canonical s))
      (both (codes "EX " ++ process) (codes " ") (both (codes "EX ") process refl (name_printed process h.0)) refl) (bracketed_printed (needs_brackets Amp s) (canonical s) (text_printed s h.1))
  text_printed (until_of all left right) h =
      both (until_word all ++ codes "[" ++ canonical left ++ codes " U " ++ canonical right) (codes "]")
      (both (until_word all ++ codes "[" ++ canonical left ++ codes " U ") (canonical right)
      (both (until_word all ++ codes "[" ++ canonical left) (codes " U ") (both (until_word all ++ codes "[") (canonical left) (both (until_word all) (codes "[") (until_printed all) refl) (text_printed left h.0)) refl) (text_printed right h.1)) refl

  joined_printed : (joint : Joint) (front : Shapes) → AreSpellable front → IsPrinted (joined joint front)
  joined_printed joint (one s) h = bracketed_printed (needs_brackets joint s) (canonical s) (text_printed s h)
  joined_printed joint (more front s) h =
      both (joined joint front ++ joint_text joint) (bracketed_if (needs_brackets joint s) (canonical s)) (both (joined joint front) (joint_text joint) (joined_printed joint front h.0) (joint_printed joint)) (bracketed_printed (needs_brackets joint s) (canonical s) (text_printed s h.1))

pub canonical_is_printed : (text : List ℕ) → IsCanonical text → IsPrinted text
canonical_is_printed text c =
    let spellable : IsSpellable (shape_disjunction c.read.d) = (disjunction-spelled c.read.d [] (subst AreSound (sym c.read.text) (lex-sound text))).0 in
    let shape : shape_of c.tree ≡ shape_disjunction c.read.d = ap shape_of (sym c.read.tree) ∙ tree-disjunction c.read.d in
    subst IsPrinted (sym (ap canonical shape) ∙ c.printed) (text_printed (shape_disjunction c.read.d) spellable)
