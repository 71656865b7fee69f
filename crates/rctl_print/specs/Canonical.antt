-- The canonical text of a formula: the one spelling that a formula is printed in.
use Rattle.std.specs.Prelude.{ℕ, Bool, true, false, List, ◌++◌, codes}
use Rattle.std.specs.Fmt.{decimal, signed_decimal}
use Rattle.rctl_grammar.specs.declared.tree.Compare.{Compare}
use Rattle.rctl_grammar.specs.declared.tree.Compare.TheVariants as compare
use Rattle.rctl_grammar.specs.declared.tree.Operator.{Operator}
use Rattle.rctl_grammar.specs.declared.tree.Operator.TheVariants as operator
use Rattle.rctl_grammar.specs.Grammar.{operator_of}
use Rattle.rctl_grammar.specs.Shape.{PlainSide, number, variable, PlainAtom, truth, comparison}
use Rattle.rctl_grammar.specs.Shape.{watch, transit, emptiness, difference, Shape, plain, not}
use Rattle.rctl_grammar.specs.Shape.{conjunction, disjunction, under, stepped, until_of, Shapes}
use Rattle.rctl_grammar.specs.Shape.{one, more}
use Rattle.rctl_print.specs.declared.joint.Joint.{Joint}
use Rattle.rctl_print.specs.declared.joint.Joint.TheVariants.{Amp, Bar}

-- ---- leaves

abbrev pub sign_of : Compare → List ℕ
sign_of compare.Eq = codes "="
sign_of compare.Ne = codes "!="
sign_of compare.Lt = codes "<"
sign_of compare.Le = codes "<="
sign_of compare.Gt = codes ">"
sign_of compare.Ge = codes ">="

abbrev pub truth_word : Bool → List ℕ
truth_word true = codes "true"
truth_word false = codes "false"

abbrev pub side_text : PlainSide → List ℕ
side_text (number value) = signed_decimal value
side_text (variable process name) = process ++ codes "." ++ name

-- the sender and the receiver in round brackets
abbrev pub channel_text : List ℕ → List ℕ → List ℕ
channel_text sender receiver = codes "(" ++ sender ++ codes "," ++ receiver ++ codes ")"

-- the sign of a comparison between blanks
abbrev pub spaced : Compare → List ℕ
spaced compare = codes " " ++ sign_of compare ++ codes " "

abbrev pub atom_text : PlainAtom → List ℕ
atom_text (truth value) = truth_word value
atom_text (comparison process name compare right) =
    process ++ codes "." ++ name ++ spaced compare ++ side_text right
atom_text (watch process name) = process ++ codes "@" ++ name
atom_text (transit sender receiver compare k) =
    codes "intransit" ++ channel_text sender receiver ++ spaced compare ++ decimal k
atom_text (emptiness sender receiver) = codes "empty" ++ channel_text sender receiver
atom_text (difference left_process left right_process right compare k) =
    left_process ++ codes "." ++ left ++ codes " - " ++ right_process ++ codes "." ++ right
    ++ spaced compare ++ signed_decimal k

-- ---- operators and joints

-- no tree has the operator of a process's number
abbrev pub operator_word : Operator → List ℕ
operator_word operator.Ef = codes "EF"
operator_word operator.Ag = codes "AG"
operator_word operator.Eg = codes "EG"
operator_word (operator.Ex process) = codes "EX "
operator_word operator.Af = codes "AF"
operator_word operator.Ax = codes "AX"

-- what stands before the operand of an `EX`
abbrev pub next_words : List ℕ → List ℕ
next_words process = codes "EX " ++ process ++ codes " "

-- the word of an until: on all paths, or on some path
abbrev pub until_word : Bool → List ℕ
until_word true = codes "A"
until_word false = codes "E"

-- what stands between the members of a conjunction, and between those of a disjunction
abbrev pub joint_text : Joint → List ℕ
joint_text Amp = codes " & "
joint_text Bar = codes " | "

-- ---- brackets

abbrev pub is_amp : Joint → Bool
is_amp Amp = true
is_amp Bar = false

-- Brackets stand round a conjunction in a conjunction, and round a disjunction in either.
abbrev pub encloses : Joint → Joint → Bool
encloses outer Amp = is_amp outer
encloses outer Bar = true

-- whether brackets stand round a formula that is a member
abbrev pub needs_brackets : Joint → Shape → Bool
needs_brackets outer (conjunction front last) = encloses outer Amp
needs_brackets outer (disjunction front last) = encloses outer Bar
needs_brackets outer s = false

abbrev pub bracketed_if : Bool → List ℕ → List ℕ
bracketed_if true text = codes "(" ++ text ++ codes ")"
bracketed_if false text = text

-- a member with this text, in brackets where it needs them
abbrev pub member_text : Joint → Shape → List ℕ → List ℕ
member_text joint s text = bracketed_if (needs_brackets joint s) text

-- ---- the text; an operand stands in brackets where a member of a conjunction does

abbrev mutual
  pub canonical : Shape → List ℕ
  canonical (plain a) = atom_text a
  canonical (not s) = codes "!" ++ member_text Amp s (canonical s)
  canonical (conjunction front last) =
      joined Amp front ++ joint_text Amp ++ member_text Amp last (canonical last)
  canonical (disjunction front last) =
      joined Bar front ++ joint_text Bar ++ member_text Bar last (canonical last)
  canonical (under operator s) =
      operator_word (operator_of operator) ++ codes " " ++ member_text Amp s (canonical s)
  canonical (stepped process s) = next_words process ++ member_text Amp s (canonical s)
  canonical (until_of all left right) =
      until_word all ++ codes "[" ++ canonical left ++ codes " U " ++ canonical right ++ codes "]"

  -- members with the joint between each two
  pub joined : Joint → Shapes → List ℕ
  joined joint (one s) = member_text joint s (canonical s)
  joined joint (more front s) =
      joined joint front ++ joint_text joint ++ member_text joint s (canonical s)
