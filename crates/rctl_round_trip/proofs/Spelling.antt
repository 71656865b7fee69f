-- The canonical text, and the kinds of its tokens, each as a function of what follows.
use Rattle.std.proofs.Common.{◌≡◌, ℕ, Bool, true, false, List, ◌∷◌, ◌++◌, Some, codes, refl, append_assoc}
use Rattle.std.specs.Prelude.{pos}
use Rattle.std.specs.Fmt.{decimal, signed_decimal}
use Rattle.run_model.specs.Run.{Name}
use Rattle.rctl_grammar.specs.declared.token.Kind.{Kind}
use Rattle.rctl_grammar.specs.declared.token.Kind.TheVariants as kind
use Rattle.rctl_grammar.specs.declared.token.Word.TheVariants as word
use Rattle.rctl_grammar.specs.declared.tree.Compare.{Compare}
use Rattle.rctl_grammar.specs.Grammar.{truth_word, path_word}
use Rattle.rctl_grammar.specs.Grammar as grammar
use Rattle.rctl_grammar.specs.Shape.{PlainSide, number, variable, PlainAtom, truth, comparison, watch, transit, emptiness, difference, Shape, plain, not, conjunction, disjunction, under, stepped, until_of, Shapes, one, more}
use Rattle.rctl_lexer.specs.Words.{word_of}
use Rattle.rctl_print.specs.Canonical as print
use Rattle.rctl_print.specs.Canonical.{canonical, joined, needs_brackets, bracketed_if, joint_text, operator_word, until_word, sign_of, side_text, atom_text, channel_text, spaced}
use Rattle.rctl_print.specs.declared.joint.Joint.{Joint}
use Rattle.rctl_print.specs.declared.joint.Joint.TheVariants.{Amp, Bar}

-- ---- bytes

abbrev pub spaced_then : Compare → List ℕ → List ℕ
spaced_then compare rest = 32 ∷ (sign_of compare ++ 32 ∷ rest)

abbrev pub side_then : PlainSide → List ℕ → List ℕ
side_then (number value) rest = signed_decimal value ++ rest
side_then (variable process name) rest = process ++ 46 ∷ (name ++ rest)

abbrev pub channel_then : Name → Name → List ℕ → List ℕ
channel_then sender receiver rest = 40 ∷ (sender ++ 44 ∷ (receiver ++ 41 ∷ rest))

abbrev pub atom_then : PlainAtom → List ℕ → List ℕ
atom_then (truth value) rest = print.truth_word value ++ rest
atom_then (comparison process name compare right) rest = process ++ 46 ∷ (name ++ spaced_then compare (side_then right rest))
atom_then (watch process name) rest = process ++ 64 ∷ (name ++ rest)
atom_then (transit sender receiver compare k) rest = codes "intransit" ++ channel_then sender receiver (spaced_then compare (signed_decimal (pos k) ++ rest))
atom_then (emptiness sender receiver) rest = codes "empty" ++ channel_then sender receiver rest
atom_then (difference left_process left right_process right compare k) rest =
    left_process ++ 46 ∷ (left ++ 32 ∷ 45 ∷ 32 ∷ (right_process ++ 46 ∷ (right ++ spaced_then compare (signed_decimal k ++ rest))))

-- in brackets, if that is said
abbrev pub text_in : Bool → (List ℕ → List ℕ) → List ℕ → List ℕ
text_in true text rest = 40 ∷ text (41 ∷ rest)
text_in false text rest = text rest

abbrev mutual
  pub text_then : Shape → List ℕ → List ℕ
  text_then (plain a) rest = atom_then a rest
  text_then (not s) rest = 33 ∷ text_in (needs_brackets Amp s) (text_then s) rest
  text_then (conjunction front last) rest = joined_then Amp front (joint_text Amp ++ text_in (needs_brackets Amp last) (text_then last) rest)
  text_then (disjunction front last) rest = joined_then Bar front (joint_text Bar ++ text_in (needs_brackets Bar last) (text_then last) rest)
  text_then (stepped process s) rest = codes "EX" ++ 32 ∷ (process ++ 32 ∷ text_in (needs_brackets Amp s) (text_then s) rest)
  text_then (under operator s) rest = operator_word (grammar.operator_of operator) ++ 32 ∷ text_in (needs_brackets Amp s) (text_then s) rest
  text_then (until_of all left right) rest = until_word all ++ 91 ∷ text_then left (32 ∷ 85 ∷ 32 ∷ text_then right (93 ∷ rest))

  pub joined_then : Joint → Shapes → List ℕ → List ℕ
  joined_then joint (one s) rest = text_in (needs_brackets joint s) (text_then s) rest
  joined_then joint (more front s) rest = joined_then joint front (joint_text joint ++ text_in (needs_brackets joint s) (text_then s) rest)

-- ---- kinds

abbrev pub named : Name → Kind
named name = kind.Word (word_of name) name

abbrev pub side_kinds : PlainSide → List Kind → List Kind
side_kinds (number value) rest = kind.Number (Some value) ∷ rest
side_kinds (variable process name) rest = named process ∷ kind.Dot ∷ named name ∷ rest

abbrev pub channel_kinds : Name → Name → List Kind → List Kind
channel_kinds sender receiver rest = kind.OpenRound ∷ named sender ∷ kind.Comma ∷ named receiver ∷ kind.CloseRound ∷ rest

abbrev pub atom_kinds : PlainAtom → List Kind → List Kind
atom_kinds (truth value) rest = kind.Word (truth_word value) (print.truth_word value) ∷ rest
atom_kinds (comparison process name compare right) rest = named process ∷ kind.Dot ∷ named name ∷ kind.Compare compare ∷ side_kinds right rest
atom_kinds (watch process name) rest = named process ∷ kind.At ∷ named name ∷ rest
atom_kinds (transit sender receiver compare k) rest =
    kind.Word word.InTransit (codes "intransit") ∷ channel_kinds sender receiver (kind.Compare compare ∷ kind.Number (Some (pos k)) ∷ rest)
atom_kinds (emptiness sender receiver) rest = kind.Word word.Empty (codes "empty") ∷ channel_kinds sender receiver rest
atom_kinds (difference left_process left right_process right compare k) rest =
    named left_process ∷ kind.Dot ∷ named left ∷ kind.Minus ∷ named right_process ∷ kind.Dot ∷ named right ∷ kind.Compare compare ∷ kind.Number (Some k) ∷ rest

abbrev pub joint_kind : Joint → Kind
joint_kind Amp = kind.Amp
joint_kind Bar = kind.Bar

abbrev pub kinds_in : Bool → (List Kind → List Kind) → List Kind → List Kind
kinds_in true kinds rest = kind.OpenRound ∷ kinds (kind.CloseRound ∷ rest)
kinds_in false kinds rest = kinds rest

abbrev mutual
  pub kinds_of : Shape → List Kind → List Kind
  kinds_of (plain a) rest = atom_kinds a rest
  kinds_of (not s) rest = kind.Bang ∷ kinds_in (needs_brackets Amp s) (kinds_of s) rest
  kinds_of (conjunction front last) rest = joined_kinds Amp front (kind.Amp ∷ kinds_in (needs_brackets Amp last) (kinds_of last) rest)
  kinds_of (disjunction front last) rest = joined_kinds Bar front (kind.Bar ∷ kinds_in (needs_brackets Bar last) (kinds_of last) rest)
  kinds_of (stepped process s) rest = kind.Word word.Ex (codes "EX") ∷ named process ∷ kinds_in (needs_brackets Amp s) (kinds_of s) rest
  kinds_of (under operator s) rest = kind.Word (grammar.word_of operator) (operator_word (grammar.operator_of operator)) ∷ kinds_in (needs_brackets Amp s) (kinds_of s) rest
  kinds_of (until_of all left right) rest = kind.Word (path_word all) (until_word all) ∷ kind.OpenSquare ∷
      kinds_of left (kind.Word word.U (codes "U") ∷ kinds_of right (kind.CloseSquare ∷ rest))

  pub joined_kinds : Joint → Shapes → List Kind → List Kind
  joined_kinds joint (one s) rest = kinds_in (needs_brackets joint s) (kinds_of s) rest
  joined_kinds joint (more front s) rest = joined_kinds joint front (joint_kind joint ∷ kinds_in (needs_brackets joint s) (kinds_of s) rest)

-- ---- the text, and then what follows

side-is : (right : PlainSide) (rest : List ℕ) → side_then right rest ≡ side_text right ++ rest
side-is (number value) rest = refl
side-is (variable process name) rest = simp append_assoc

channel-is : (sender receiver : Name) (rest : List ℕ) → channel_then sender receiver rest ≡ channel_text sender receiver ++ rest
channel-is sender receiver rest = simp append_assoc

spaced-is : (compare : Compare) (rest : List ℕ) → spaced_then compare rest ≡ spaced compare ++ rest
spaced-is compare rest = simp append_assoc

four : (a b c d rest : List ℕ) → a ++ (b ++ (c ++ (d ++ rest))) ≡ a ++ b ++ c ++ d ++ rest
four a b c d rest = simp append_assoc

atom-is : (a : PlainAtom) (rest : List ℕ) → atom_then a rest ≡ atom_text a ++ rest
atom-is (truth value) rest = refl
atom-is (comparison process name compare right) rest = rw (side-is right rest) (simp append_assoc)
atom-is (watch process name) rest = simp append_assoc
atom-is (transit sender receiver compare k) rest =
    rw (spaced-is compare (signed_decimal (pos k) ++ rest), channel-is sender receiver (spaced compare ++ (signed_decimal (pos k) ++ rest)))
    (four (codes "intransit") (channel_text sender receiver) (spaced compare) (decimal k) rest)
atom-is (emptiness sender receiver) rest = simp append_assoc
atom-is (difference left_process left right_process right compare k) rest = rw (spaced-is compare (signed_decimal k ++ rest)) (simp append_assoc)

text-in-is : (b : Bool) (f : List ℕ → List ℕ) (text : List ℕ) → ((rest : List ℕ) → f rest ≡ text ++ rest) → (rest : List ℕ) → text_in b f rest ≡ bracketed_if b text ++ rest
text-in-is true f text is rest = rw (is (41 ∷ rest)) (simp append_assoc)
text-in-is false f text is rest = is rest

mutual
  pub text-is : (s : Shape) (rest : List ℕ) → text_then s rest ≡ canonical s ++ rest
  text-is (plain a) rest = atom-is a rest
  text-is (not s) rest = rw (text-in-is (needs_brackets Amp s) (text_then s) (canonical s) (text-is s) rest) (simp append_assoc)
  text-is (conjunction front last) rest =
      rw (text-in-is (needs_brackets Amp last) (text_then last) (canonical last) (text-is last) rest, joined-is Amp front) (simp append_assoc)
  text-is (disjunction front last) rest =
      rw (text-in-is (needs_brackets Bar last) (text_then last) (canonical last) (text-is last) rest, joined-is Bar front) (simp append_assoc)
  text-is (stepped process s) rest = rw (text-in-is (needs_brackets Amp s) (text_then s) (canonical s) (text-is s) rest) (simp append_assoc)
  text-is (under operator s) rest = rw (text-in-is (needs_brackets Amp s) (text_then s) (canonical s) (text-is s) rest) (simp append_assoc)
  text-is (until_of all left right) rest = rw (text-is right (93 ∷ rest), text-is left) (simp append_assoc)

  joined-is : (joint : Joint) (front : Shapes) (rest : List ℕ) → joined_then joint front rest ≡ joined joint front ++ rest
  joined-is joint (one s) rest = text-in-is (needs_brackets joint s) (text_then s) (canonical s) (text-is s) rest
  joined-is joint (more front s) rest =
      rw (text-in-is (needs_brackets joint s) (text_then s) (canonical s) (text-is s) rest, joined-is joint front) (simp append_assoc)
