-- The tokens of a canonical text have the kinds of its shape.
use Rattle.std.proofs.Common.{◌≡◌, ℕ, Bool, true, false, List, [], ◌∷◌, ◌++◌, codes, refl, arith}
use Rattle.std.specs.Prelude.{pos, FitsSigned}
use Rattle.std.specs.Int.{w64}
use Rattle.std.proofs.lemmas.Bool.{and_parts}
use Rattle.std.proofs.lemmas.Bool.Decides.{nat_tests}
use Rattle.run_model.specs.Run.{Name}
use Rattle.pota_base.specs.Number.{is_digit}
use Rattle.pota_names.specs.Names.{is_name, is_name_start, is_name_byte}
use Rattle.rctl_grammar.specs.declared.token.Kind.{Kind}
use Rattle.rctl_grammar.specs.declared.token.Kind.TheVariants as kind
use Rattle.rctl_grammar.specs.declared.token.Word.TheVariants as word_is
use Rattle.rctl_grammar.specs.declared.tree.Compare.{Compare}
use Rattle.run_model.specs.Formula.{Operator, Ef, Ag, Eg, Af, Ax}
use Rattle.rctl_grammar.specs.Grammar.{truth_word, path_word}
use Rattle.rctl_grammar.specs.Grammar as grammar
use Rattle.rctl_grammar.specs.Shape as shape
use Rattle.rctl_grammar.specs.Shape.{PlainSide, PlainAtom, truth, comparison, watch, transit, emptiness, difference, Shape, plain, not, conjunction, disjunction, under, stepped, until_of, Shapes, one, more}
use Rattle.rctl_lexer.specs.Front.{starts_with}
use Rattle.rctl_lexer.specs.Words.{word_of}
use Rattle.rctl_print.specs.Canonical as print
use Rattle.rctl_print.specs.Canonical.{needs_brackets, joint_text, operator_word, until_word}
use Rattle.rctl_print.specs.declared.joint.Joint.{Joint}
use Rattle.rctl_print.specs.declared.joint.Joint.TheVariants.{Amp, Bar}
use Rattle.rctl_round_trip.proofs.Pieces.{Reads, starts, blank, open_round, close_round, open_square, close_square, comma, dot, at_sign, amp, bar, minus, bang, compared, word, number}
use Rattle.rctl_round_trip.proofs.Spelling.{spaced_then, side_then, channel_then, atom_then, text_in, text_then, joined_then, named, side_kinds, channel_kinds, atom_kinds, joint_kind, kinds_in, kinds_of, joined_kinds}

-- ---- what can be spelled: names that are names, and numbers of 64 bits

abbrev pub IsSide : PlainSide → Type 0
IsSide (shape.number value) = FitsSigned w64 value
IsSide (shape.variable process name) = (is_name process ≡ true) × (is_name name ≡ true)

abbrev pub IsAtom : PlainAtom → Type 0
IsAtom (truth value) = Unit {0}
IsAtom (comparison process name compare right) = (is_name process ≡ true) × (is_name name ≡ true) × IsSide right
IsAtom (watch process name) = (is_name process ≡ true) × (is_name name ≡ true)
IsAtom (transit sender receiver compare k) = (is_name sender ≡ true) × (is_name receiver ≡ true) × FitsSigned w64 (pos k)
IsAtom (emptiness sender receiver) = (is_name sender ≡ true) × (is_name receiver ≡ true)
IsAtom (difference left_process left right_process right compare k) =
    (is_name left_process ≡ true) × (is_name left ≡ true) × (is_name right_process ≡ true) × (is_name right ≡ true) × FitsSigned w64 k

abbrev mutual
  pub IsSpellable : Shape → Type 0
  IsSpellable (plain a) = IsAtom a
  IsSpellable (not s) = IsSpellable s
  IsSpellable (conjunction front last) = AreSpellable front × IsSpellable last
  IsSpellable (disjunction front last) = AreSpellable front × IsSpellable last
  IsSpellable (under operator s) = IsSpellable s
  IsSpellable (stepped process s) = (is_name process ≡ true) × IsSpellable s
  IsSpellable (until_of all left right) = IsSpellable left × IsSpellable right

  pub AreSpellable : Shapes → Type 0
  AreSpellable (one s) = IsSpellable s
  AreSpellable (more front s) = AreSpellable front × IsSpellable s

-- ---- the first byte is no `=`

name-first : (name rest : List ℕ) → is_name name ≡ true → starts_with 61 (name ++ rest) ≡ false
name-first [] rest h = absurd cc
name-first (b ∷ bs) rest h = let first = (and_parts (is_name_start b) _ h).0 in grind (arith, nat_tests)

abbrev NoEquals : (List ℕ → List ℕ) → Type 0
NoEquals text = (rest : List ℕ) → starts_with 61 (text rest) ≡ false

atom-first : (a : PlainAtom) → IsAtom a → NoEquals (atom_then a)
atom-first (truth true) h rest = refl
atom-first (truth false) h rest = refl
atom-first (comparison process name compare right) h rest = name-first process _ h.0
atom-first (watch process name) h rest = name-first process _ h.0
atom-first (transit sender receiver compare k) h rest = refl
atom-first (emptiness sender receiver) h rest = refl
atom-first (difference left_process left right_process right compare k) h rest = name-first left_process _ h.0

in-first : (b : Bool) (text : List ℕ → List ℕ) → NoEquals text → NoEquals (text_in b text)
in-first true text h rest = refl
in-first false text h rest = h rest

operator-first : (operator : Operator) → NoEquals (λ rest. operator_word (grammar.operator_of operator) ++ rest)
operator-first Ef rest = refl
operator-first Ag rest = refl
operator-first Eg rest = refl
operator-first Af rest = refl
operator-first Ax rest = refl

until-first : (all : Bool) → NoEquals (λ rest. until_word all ++ rest)
until-first true rest = refl
until-first false rest = refl

mutual
  text-first : (s : Shape) → IsSpellable s → NoEquals (text_then s)
  text-first (plain a) h rest = atom-first a h rest
  text-first (not s) h rest = refl
  text-first (conjunction front last) h rest = joined-first Amp front h.0 _
  text-first (disjunction front last) h rest = joined-first Bar front h.0 _
  text-first (under operator s) h rest = operator-first operator _
  text-first (stepped process s) h rest = refl
  text-first (until_of all left right) h rest = until-first all _

  joined-first : (joint : Joint) (front : Shapes) → AreSpellable front → NoEquals (joined_then joint front)
  joined-first joint (one s) h rest = in-first (needs_brackets joint s) (text_then s) (text-first s h) rest
  joined-first joint (more front s) h rest = joined-first joint front h.0 _

-- ---- the tokens

-- no byte follows that goes on with a word or a number
abbrev pub Ends : List ℕ → Type 0
Ends rest = starts is_name_byte rest ≡ false

no-digit : (rest : List ℕ) → Ends rest → starts is_digit rest ≡ false
no-digit [] h = refl
no-digit (b ∷ bs) h = grind (arith, nat_tests)

-- where what follows reads as some kinds, the text with it reads as more
abbrev pub Adds : (List ℕ → List ℕ) → (List Kind → List Kind) → Type 0
Adds text kinds = (rest : List ℕ) (ks : List Kind) → Ends rest → Reads rest ks → Reads (text rest) (kinds ks)

name-adds : (name : Name) → is_name name ≡ true → Adds (λ rest. name ++ rest) (λ ks. named name ∷ ks)
name-adds name h rest ks ends behind = word name rest ks h ends behind

variable-adds : (process name : Name) → is_name process ≡ true → is_name name ≡ true → Adds (λ rest. process ++ 46 ∷ (name ++ rest)) (λ ks. named process ∷ kind.Dot ∷ named name ∷ ks)
variable-adds process name p n rest ks ends behind = name-adds process p _ _ refl (dot _ _ (name-adds name n rest ks ends behind))

spaced-reads : (c : Compare) (rest : List ℕ) (ks : List Kind) → Reads rest ks → Reads (spaced_then c rest) (kind.Compare c ∷ ks)
spaced-reads c rest ks h = blank _ _ (compared c rest ks h)

side-adds : (right : PlainSide) → IsSide right → Adds (side_then right) (side_kinds right)
side-adds (shape.number value) h rest ks ends behind = number value rest ks h (no-digit rest ends) behind
side-adds (shape.variable process name) h rest ks ends behind = variable-adds process name h.0 h.1 rest ks ends behind

channel-adds : (sender receiver : Name) → is_name sender ≡ true → is_name receiver ≡ true → (rest : List ℕ) (ks : List Kind) → Reads rest ks →
    Reads (channel_then sender receiver rest) (channel_kinds sender receiver ks)
channel-adds sender receiver s r rest ks h = open_round _ _ (name-adds sender s _ _ refl (comma _ _ (name-adds receiver r _ _ refl (close_round _ _ h))))

truth-adds : (value : Bool) → Adds (λ rest. print.truth_word value ++ rest) (λ ks. kind.Word (truth_word value) (print.truth_word value) ∷ ks)
unfolding word_of
truth-adds true rest ks ends behind = word (codes "true") rest ks refl ends behind
truth-adds false rest ks ends behind = word (codes "false") rest ks refl ends behind

transit-reads : (rest : List ℕ) (ks : List Kind) → Reads (40 ∷ rest) ks → Reads (codes "intransit" ++ 40 ∷ rest) (kind.Word word_is.InTransit (codes "intransit") ∷ ks)
unfolding word_of
transit-reads rest ks h = word (codes "intransit") (40 ∷ rest) ks refl refl h

empty-reads : (rest : List ℕ) (ks : List Kind) → Reads (40 ∷ rest) ks → Reads (codes "empty" ++ 40 ∷ rest) (kind.Word word_is.Empty (codes "empty") ∷ ks)
unfolding word_of
empty-reads rest ks h = word (codes "empty") (40 ∷ rest) ks refl refl h

atom-adds : (a : PlainAtom) → IsAtom a → Adds (atom_then a) (atom_kinds a)
atom-adds (truth value) h rest ks ends behind = truth-adds value rest ks ends behind
atom-adds (comparison process name compare right) h rest ks ends behind =
    variable-adds process name h.0 h.1 _ _ refl (spaced-reads compare _ _ (side-adds right h.2 rest ks ends behind))
atom-adds (watch process name) h rest ks ends behind = name-adds process h.0 _ _ refl (at_sign _ _ (name-adds name h.1 rest ks ends behind))
atom-adds (transit sender receiver compare k) h rest ks ends behind = transit-reads _ _ (channel-adds sender receiver h.0 h.1 _ _
    (spaced-reads compare _ _ (number (pos k) rest ks h.2 (no-digit rest ends) behind)))
atom-adds (emptiness sender receiver) h rest ks ends behind = empty-reads _ _ (channel-adds sender receiver h.0 h.1 _ _ behind)
atom-adds (difference left_process left right_process right compare k) h rest ks ends behind =
    variable-adds left_process left h.0 h.1 _ _ refl (blank _ _ (minus _ _ (variable-adds right_process right h.2 h.3 _ _ refl
    (spaced-reads compare _ _ (number k rest ks h.4 (no-digit rest ends) behind)))))

in-adds : (b : Bool) (text : List ℕ → List ℕ) (kinds : List Kind → List Kind) → Adds text kinds → Adds (text_in b text) (kinds_in b kinds)
in-adds true text kinds h rest ks ends behind = open_round _ _ (h (41 ∷ rest) (kind.CloseRound ∷ ks) refl (close_round rest ks behind))
in-adds false text kinds h rest ks ends behind = h rest ks ends behind

joint-reads : (joint : Joint) (rest : List ℕ) (ks : List Kind) → Reads rest ks → Reads (joint_text joint ++ rest) (joint_kind joint ∷ ks)
joint-reads Amp rest ks h = blank _ _ (amp _ _ (blank rest ks h))
joint-reads Bar rest ks h = blank _ _ (bar _ _ (blank rest ks h))

joint-ends : (joint : Joint) (rest : List ℕ) → Ends (joint_text joint ++ rest)
joint-ends Amp rest = refl
joint-ends Bar rest = refl

operator-adds : (operator : Operator) → Adds (λ rest. operator_word (grammar.operator_of operator) ++ rest) (λ ks. kind.Word (grammar.word_of operator) (operator_word (grammar.operator_of operator)) ∷ ks)
unfolding word_of
operator-adds Ef rest ks ends behind = word (codes "EF") rest ks refl ends behind
operator-adds Ag rest ks ends behind = word (codes "AG") rest ks refl ends behind
operator-adds Eg rest ks ends behind = word (codes "EG") rest ks refl ends behind
operator-adds Af rest ks ends behind = word (codes "AF") rest ks refl ends behind
operator-adds Ax rest ks ends behind = word (codes "AX") rest ks refl ends behind

next-reads : (rest : List ℕ) (ks : List Kind) → Reads rest ks → Reads (codes "EX" ++ 32 ∷ rest) (kind.Word word_is.Ex (codes "EX") ∷ ks)
unfolding word_of
next-reads rest ks h = word (codes "EX") (32 ∷ rest) ks refl refl (blank rest ks h)

path-adds : (all : Bool) → Adds (λ rest. until_word all ++ rest) (λ ks. kind.Word (path_word all) (until_word all) ∷ ks)
unfolding word_of
path-adds true rest ks ends behind = word (codes "A") rest ks refl ends behind
path-adds false rest ks ends behind = word (codes "E") rest ks refl ends behind

until-reads : (rest : List ℕ) (ks : List Kind) → Reads rest ks → Reads (32 ∷ 85 ∷ 32 ∷ rest) (kind.Word word_is.U (codes "U") ∷ ks)
unfolding word_of
until-reads rest ks h = blank _ _ (word (codes "U") (32 ∷ rest) ks refl refl (blank rest ks h))

mutual
  pub text-adds : (s : Shape) → IsSpellable s → Adds (text_then s) (kinds_of s)
  text-adds (plain a) h rest ks ends behind = atom-adds a h rest ks ends behind
  text-adds (not s) h rest ks ends behind = bang _ _ (in-first (needs_brackets Amp s) (text_then s) (text-first s h) rest)
      (in-adds (needs_brackets Amp s) (text_then s) (kinds_of s) (text-adds s h) rest ks ends behind)
  text-adds (conjunction front last) h rest ks ends behind = joined-adds Amp front h.0 _ _ refl
      (joint-reads Amp _ _ (in-adds (needs_brackets Amp last) (text_then last) (kinds_of last) (text-adds last h.1) rest ks ends behind))
  text-adds (disjunction front last) h rest ks ends behind = joined-adds Bar front h.0 _ _ refl
      (joint-reads Bar _ _ (in-adds (needs_brackets Bar last) (text_then last) (kinds_of last) (text-adds last h.1) rest ks ends behind))
  text-adds (under operator s) h rest ks ends behind = operator-adds operator _ _ refl
      (blank _ _ (in-adds (needs_brackets Amp s) (text_then s) (kinds_of s) (text-adds s h) rest ks ends behind))
  text-adds (stepped process s) h rest ks ends behind = next-reads _ _ (name-adds process h.0 _ _ refl
      (blank _ _ (in-adds (needs_brackets Amp s) (text_then s) (kinds_of s) (text-adds s h.1) rest ks ends behind)))
  text-adds (until_of all left right) h rest ks ends behind = path-adds all _ _ refl (open_square _ _ (text-adds left h.0 _ _ refl
      (until-reads _ _ (text-adds right h.1 _ _ refl (close_square rest ks behind)))))

  joined-adds : (joint : Joint) (front : Shapes) → AreSpellable front → Adds (joined_then joint front) (joined_kinds joint front)
  joined-adds joint (one s) h rest ks ends behind = in-adds (needs_brackets joint s) (text_then s) (kinds_of s) (text-adds s h) rest ks ends behind
  joined-adds joint (more front s) h rest ks ends behind = joined-adds joint front h.0 _ _ (joint-ends joint _)
      (joint-reads joint _ _ (in-adds (needs_brackets joint s) (text_then s) (kinds_of s) (text-adds s h.1) rest ks ends behind))
