-- No byte of a canonical text is a line feed: names, numbers and words have none.
use Rattle.std.proofs.Common.{◌≡◌, ℕ, suc, ◌+◌, ◌^◌, ◌<◌, Bool, true, false, List, [], ◌∷◌, ◌++◌, refl, sym, ap, subst, ◌∙◌, arith, inl, inr}
use Rattle.std.specs.Prelude.{ℤ, pos, negsuc, ◌==◌, ◌%◌, ◌&&◌, not, nat_lt, codes, FitsSigned}
use Rattle.std.specs.Int.{w64}
use Rattle.std.specs.List.{list_all}
use Rattle.std.specs.Fmt.{decimal, signed_decimal}
use Rattle.std.proofs.lemmas.Fmt.{decimal_by_steps}
use Rattle.std.proofs.lemmas.Int.{ints}
use Rattle.std.proofs.lemmas.Bool.{cases_Bool, and_parts, eqb-true, true≢false}
use Rattle.std.proofs.lemmas.Bool.Decides.{nat_tests}
use Rattle.run_model.specs.Formula as model
use Rattle.pota_base.specs.Limits.{longest_name}
use Rattle.pota_names.specs.Names.{is_name, is_name_start, is_name_byte}
use Rattle.rctl_grammar.specs.declared.tree.Compare.{Compare}
use Rattle.rctl_grammar.specs.declared.tree.Compare.TheVariants as compare
use Rattle.rctl_grammar.specs.Grammar.{operator_of}
use Rattle.rctl_grammar.specs.Shape as shape
use Rattle.rctl_grammar.specs.Shape.{PlainSide, PlainAtom, Shape, plain, conjunction, disjunction, under, stepped, until_of, Shapes, one, more, shape_of, shape_disjunction}
use Rattle.rctl_grammar.proofs.Shapes.{tree-disjunction}
use Rattle.rctl_print.specs.Canonical.{canonical, joined, needs_brackets, bracketed_if, joint_text, operator_word, until_word, side_text, atom_text, channel_text, spaced, sign_of, next_words, member_text}
use Rattle.rctl_print.specs.declared.joint.Joint.{Joint}
use Rattle.rctl_print.specs.declared.joint.Joint.TheVariants.{Amp, Bar}
use Rattle.rctl_round_trip.proofs.Texts.{IsSide, IsAtom, IsSpellable, AreSpellable}
use Rattle.rctl_round_trip.proofs.Sound.{AreSound, lex-sound, disjunction-spelled}
use Rattle.printed_lengths.specs.Lengths.{HasNoFeed, PrintedIsOneLine}

-- ---- texts

both : (xs ys : List ℕ) → HasNoFeed xs → HasNoFeed ys → HasNoFeed (xs ++ ys)
both [] ys h k = k
both (x ∷ xs) ys h k = (h.0, both xs ys h.1 k)

abbrev is_free : List ℕ → Bool
is_free [] = true
is_free (b ∷ bs) = not (b == 10) && is_free bs

off : (b : Bool) → not b ≡ true → b ≡ false
off true h = sym h
off false h = refl

-- a fixed text, by computing
free : (text : List ℕ) → is_free text ≡ true → HasNoFeed text
free [] h = tt
free (b ∷ bs) h = let p = and_parts (not (b == 10)) (is_free bs) h in (off (b == 10) p.0, free bs p.1)

-- bytes that pass a test that a line feed fails
passed : (test : ℕ → Bool) → test 10 ≡ false → (b : ℕ) → test b ≡ true → b == 10 ≡ false
passed test fails b h = elim (cases_Bool (b == 10)) [
  | inl ten ↦ absurd (true≢false (sym h ∙ ap test (eqb-true b 10 ten) ∙ fails))
  | inr other ↦ other
]

all-passed : (bs : List ℕ) → list_all is_name_byte bs ≡ true → HasNoFeed bs
all-passed [] h = tt
all-passed (b ∷ bs) h = let p = and_parts (is_name_byte b) (list_all is_name_byte bs) h in (passed is_name_byte refl b p.0, all-passed bs p.1)

name-free : (name : List ℕ) → is_name name ≡ true → HasNoFeed name
name-free [] h = absurd cc
name-free (b ∷ bs) h =
    let first = and_parts (is_name_start b) _ h in
    (passed is_name_start refl b first.0, all-passed bs (and_parts (nat_lt _ longest_name) (list_all is_name_byte bs) first.1).1)

-- ---- numbers

not-ten : (d : ℕ) → (48 + d) == 10 ≡ false
not-ten d = grind (arith, nat_tests)

number-free : (n : ℕ) → n < 2 ^ 64 → HasNoFeed (decimal n)
number-free n fits = decimal_by_steps (λ m ds. HasNoFeed ds) (λ m low. (not-ten m, tt))
    (λ m ds big ih. both ds ((48 + m % 10) ∷ []) ih (not-ten (m % 10), tt)) n fits

signed-free : (z : ℤ) → FitsSigned w64 z → HasNoFeed (signed_decimal z)
signed-free (pos n) fits = let bound : n < 2 ^ 64 = omega (arith, ints) in number-free n bound
signed-free (negsuc n) fits = let bound : suc n < 2 ^ 64 = omega (arith, ints) in (refl, number-free (suc n) bound)

-- ---- words

sign-free : (c : Compare) → HasNoFeed (sign_of c)
sign-free compare.Eq = free (sign_of compare.Eq) refl
sign-free compare.Ne = free (sign_of compare.Ne) refl
sign-free compare.Lt = free (sign_of compare.Lt) refl
sign-free compare.Le = free (sign_of compare.Le) refl
sign-free compare.Gt = free (sign_of compare.Gt) refl
sign-free compare.Ge = free (sign_of compare.Ge) refl

spaced-free : (c : Compare) → HasNoFeed (spaced c)
spaced-free c = both (codes " ") _ (free (codes " ") refl) (both (sign_of c) (codes " ") (sign-free c) (free (codes " ") refl))

operator-free : (o : model.Operator) → HasNoFeed (operator_word (operator_of o))
operator-free model.Ef = free (operator_word (operator_of model.Ef)) refl
operator-free model.Ag = free (operator_word (operator_of model.Ag)) refl
operator-free model.Eg = free (operator_word (operator_of model.Eg)) refl
operator-free model.Af = free (operator_word (operator_of model.Af)) refl
operator-free model.Ax = free (operator_word (operator_of model.Ax)) refl

until-free : (all : Bool) → HasNoFeed (until_word all)
until-free true = free (until_word true) refl
until-free false = free (until_word false) refl

joint-free : (joint : Joint) → HasNoFeed (joint_text joint)
joint-free Amp = free (joint_text Amp) refl
joint-free Bar = free (joint_text Bar) refl

bracketed-free : (b : Bool) (text : List ℕ) → HasNoFeed text → HasNoFeed (bracketed_if b text)
bracketed-free true text h = both (codes "(") _ (free (codes "(") refl) (both text (codes ")") h (free (codes ")") refl))
bracketed-free false text h = h

-- ---- atoms

variable-free : (process name : List ℕ) → is_name process ≡ true → is_name name ≡ true → HasNoFeed (process ++ codes "." ++ name)
variable-free process name p n = both (process ++ codes ".") name (both process (codes ".") (name-free process p) (free (codes ".") refl)) (name-free name n)

channel-free : (sender receiver : List ℕ) → is_name sender ≡ true → is_name receiver ≡ true → HasNoFeed (channel_text sender receiver)
channel-free sender receiver s r =
    let opened = both (codes "(") sender (free (codes "(") refl) (name-free sender s) in
    let parted = both (codes "(" ++ sender) (codes ",") opened (free (codes ",") refl) in
    let named = both (codes "(" ++ sender ++ codes ",") receiver parted (name-free receiver r) in
    both (codes "(" ++ sender ++ codes "," ++ receiver) (codes ")") named (free (codes ")") refl)

side-free : (right : PlainSide) → IsSide right → HasNoFeed (side_text right)
side-free (shape.number value) h = signed-free value h
side-free (shape.variable process name) h = variable-free process name h.0 h.1

difference-free : (left_process left right_process right : List ℕ) → is_name left_process ≡ true → is_name left ≡ true → is_name right_process ≡ true → is_name right ≡ true
    → HasNoFeed (left_process ++ codes "." ++ left ++ codes " - " ++ right_process ++ codes "." ++ right)
difference-free left_process left right_process right lp l rp r =
    let first = both (left_process ++ codes "." ++ left) (codes " - ") (variable-free left_process left lp l) (free (codes " - ") refl) in
    let other = both (left_process ++ codes "." ++ left ++ codes " - ") right_process first (name-free right_process rp) in
    let dotted = both (left_process ++ codes "." ++ left ++ codes " - " ++ right_process) (codes ".") other (free (codes ".") refl) in
    both (left_process ++ codes "." ++ left ++ codes " - " ++ right_process ++ codes ".") right dotted (name-free right r)

atom-free : (a : PlainAtom) → IsAtom a → HasNoFeed (atom_text a)
atom-free (shape.truth true) h = free (codes "true") refl
atom-free (shape.truth false) h = free (codes "false") refl
atom-free (shape.comparison process name compare right) h =
    both (process ++ codes "." ++ name ++ spaced compare) (side_text right) (both (process ++ codes "." ++ name) (spaced compare) (variable-free process name h.0 h.1) (spaced-free compare)) (side-free right h.2)
atom-free (shape.watch process name) h = both (process ++ codes "@") name (both process (codes "@") (name-free process h.0) (free (codes "@") refl)) (name-free name h.1)
atom-free (shape.transit sender receiver compare k) h =
    let bound : k < 2 ^ 64 = omega (arith, ints, h.2) in
    let named = both (codes "intransit") (channel_text sender receiver) (free (codes "intransit") refl) (channel-free sender receiver h.0 h.1) in
    both (codes "intransit" ++ channel_text sender receiver ++ spaced compare) (decimal k) (both (codes "intransit" ++ channel_text sender receiver) (spaced compare) named (spaced-free compare)) (number-free k bound)
atom-free (shape.emptiness sender receiver) h = both (codes "empty") (channel_text sender receiver) (free (codes "empty") refl) (channel-free sender receiver h.0 h.1)
atom-free (shape.difference left_process left right_process right compare k) h =
    let sides = left_process ++ codes "." ++ left ++ codes " - " ++ right_process ++ codes "." ++ right in
    both (sides ++ spaced compare) (signed_decimal k) (both sides (spaced compare) (difference-free left_process left right_process right h.0 h.1 h.2 h.3) (spaced-free compare)) (signed-free k h.4)

-- ---- formulas

member-free : (joint : Joint) (s : Shape) → HasNoFeed (canonical s) → HasNoFeed (member_text joint s (canonical s))
member-free joint s h = bracketed-free (needs_brackets joint s) (canonical s) h

mutual
  text-free : (s : Shape) → IsSpellable s → HasNoFeed (canonical s)
  text-free (plain a) h = atom-free a h
  text-free (shape.not s) h = both (codes "!") (member_text Amp s (canonical s)) (free (codes "!") refl) (member-free Amp s (text-free s h))
  text-free (conjunction front last) h =
      both (joined Amp front ++ joint_text Amp) (member_text Amp last (canonical last)) (both (joined Amp front) (joint_text Amp) (joined-free Amp front h.0) (joint-free Amp)) (member-free Amp last (text-free last h.1))
  text-free (disjunction front last) h =
      both (joined Bar front ++ joint_text Bar) (member_text Bar last (canonical last)) (both (joined Bar front) (joint_text Bar) (joined-free Bar front h.0) (joint-free Bar)) (member-free Bar last (text-free last h.1))
  text-free (under o s) h =
      both (operator_word (operator_of o) ++ codes " ") (member_text Amp s (canonical s)) (both (operator_word (operator_of o)) (codes " ") (operator-free o) (free (codes " ") refl)) (member-free Amp s (text-free s h))
  text-free (stepped process s) h =
      let word = both (codes "EX ") process (free (codes "EX ") refl) (name-free process h.0) in
      both (next_words process) (member_text Amp s (canonical s)) (both (codes "EX " ++ process) (codes " ") word (free (codes " ") refl)) (member-free Amp s (text-free s h.1))
  text-free (until_of all left right) h =
      let opened = both (until_word all) (codes "[") (until-free all) (free (codes "[") refl) in
      let first = both (until_word all ++ codes "[") (canonical left) opened (text-free left h.0) in
      let parted = both (until_word all ++ codes "[" ++ canonical left) (codes " U ") first (free (codes " U ") refl) in
      let other = both (until_word all ++ codes "[" ++ canonical left ++ codes " U ") (canonical right) parted (text-free right h.1) in
      both (until_word all ++ codes "[" ++ canonical left ++ codes " U " ++ canonical right) (codes "]") other (free (codes "]") refl)

  joined-free : (joint : Joint) (front : Shapes) → AreSpellable front → HasNoFeed (joined joint front)
  joined-free joint (one s) h = member-free joint s (text-free s h)
  joined-free joint (more front s) h =
      both (joined joint front ++ joint_text joint) (member_text joint s (canonical s)) (both (joined joint front) (joint_text joint) (joined-free joint front h.0) (joint-free joint)) (member-free joint s (text-free s h.1))

pub printed_line : PrintedIsOneLine
printed_line text t r =
    let spelled : IsSpellable (shape_disjunction r.d) = (disjunction-spelled r.d [] (subst AreSound (sym r.text) (lex-sound text))).0 in
    let is : shape_of t ≡ shape_disjunction r.d = ap shape_of (sym r.tree) ∙ tree-disjunction r.d in
    subst (λ (s : Shape). HasNoFeed (canonical s)) (sym is) (text-free (shape_disjunction r.d) spelled)
