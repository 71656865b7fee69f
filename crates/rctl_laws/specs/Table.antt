-- The faults that a text of tokens has, each by the tokens before it, and their order. Nothing here
-- is read from left to right: a text may have many faults.
use Rattle.std.specs.Prelude.{◌≡◌, ℕ, negsuc, ◌+◌, ◌<◌, ◌≤◌, ◌⊎◌, Bool, List, [], ◌∷◌, ◌++◌, Some}
use Rattle.std.specs.Prelude.{None, true}
use Rattle.run_model.specs.Run.{Name}
use Rattle.pota_base.specs.Limits.{deepest, most_nodes}
use Rattle.rctl_grammar.specs.declared.token.Kind.{Kind}
use Rattle.rctl_grammar.specs.declared.token.Kind.TheVariants as kind
use Rattle.rctl_grammar.specs.declared.token.Word.{Word}
use Rattle.rctl_grammar.specs.declared.token.Word.TheVariants as word
use Rattle.rctl_grammar.specs.declared.token.Token.{Token}
use Rattle.rctl_grammar.specs.declared.token.End.{End}
use Rattle.rctl_grammar.specs.declared.token.End.TheVariants as end
use Rattle.rctl_grammar.specs.declared.tree.Compare.{Compare}
use Rattle.rctl_grammar.specs.declared.fault.FormulaCode.{FormulaCode}
use Rattle.rctl_grammar.specs.declared.fault.FormulaCode.TheVariants as code
use Rattle.rctl_grammar.specs.declared.fault.FormulaFault.{FormulaFault}
use Rattle.rctl_grammar.specs.Grammar.{Channel, Disjunction, Conjunction, Unary, tok, spelled}
use Rattle.rctl_grammar.specs.Grammar.{path_word, text_channel, text_conjunction}
use Rattle.rctl_grammar.specs.Grammar.{text_unary, nodes_conjunction, nodes_unary, IsFormula}
use Rattle.rctl_grammar.specs.Grammar.{Begins}
use Rattle.rctl_grammar.specs.Machine.{Before, Outer, Open, sign, no_sign, text_before, text_outer}
use Rattle.rctl_grammar.specs.Machine.{text_open}
use Rattle.rctl_grammar.specs.FirstFault.{depth, nodes_open, nodes_outer}
use Rattle.rctl_grammar.specs.FirstFault.{nodes_before, is_operator}

-- the token is one of these, at this place, with those tokens before it and behind it
pub record IsAt (tokens : List Token) (at : ℕ) (before : List Token) (token : Token)
    (rest : List Token) : Type 0 where
  pub whole : tokens ≡ before ++ token ∷ rest
  pub place : token.at ≡ at

-- ---- syntax

-- the tokens before it begin a formula, and with it they do not
pub record IsUnexpected (tokens : List Token) (at : ℕ) : Type 0 where
  pub before : List Token
  pub token : Token
  pub rest : List Token
  pub stands : IsAt tokens at before token rest
  pub begins : Begins before
  pub breaks : Begins (before ++ token ∷ []) → ⊥

-- the text ends there and is no formula
pub record IsUnfinished (tokens : List Token) (ending : End) (at : ℕ) : Type 0 where
  pub ends : ending ≡ end.Ends at
  pub none : (d : Disjunction) → IsFormula tokens d → ⊥

-- ---- numbers

-- `intransit(P,Q) <` stands last
pub record EndsWithTransit (before : List Token) : Type 0 where
  pub front : List Token
  pub name : Name
  pub at : ℕ
  pub channel : Channel
  pub compare : Compare
  pub compare_at : ℕ
  pub text : before ≡ front ++ spelled word.InTransit name at
      ∷ text_channel channel (tok (kind.Compare compare) compare_at ∷ [])

abbrev pub IsNegative : Kind → Type 0
IsNegative k = (n : ℕ) × (k ≡ kind.Number (Some (negsuc n)))

-- a number outside the range of 64 bits, or a negative one that `intransit` is compared with
pub record IsBadNumber (tokens : List Token) (at : ℕ) : Type 0 where
  pub before : List Token
  pub token : Token
  pub rest : List Token
  pub stands : IsAt tokens at before token rest
  pub bad : (token.kind ≡ kind.Number None) ⊎ (IsNegative token.kind × EndsWithTransit before)

-- ---- levels

-- a word before these tokens is not made a name by them
abbrev pub NamesNone : List Token → Type 0
NamesNone [] = Unit {0}
NamesNone (t ∷ ts) = sign t.kind ≡ no_sign

-- `!`, `(`, or an operator's word
abbrev pub OpensOperand : Kind → List Token → Type 0
OpensOperand k rest =
    (k ≡ kind.Bang) ⊎ ((k ≡ kind.OpenRound)
    ⊎ ((w : Word) × (name : Name) × (k ≡ kind.Word w name) × (is_operator w ≡ true)
    × NamesNone rest))

-- the `[` behind `E` or `A`
pub record OpensUntil (around : Open) (before : List Token) (k : Kind) : Type 0 where
  pub all : Bool
  pub name : Name
  pub at : ℕ
  pub text : before ≡ text_open around (spelled (path_word all) name at ∷ [])
  pub square : k ≡ kind.OpenSquare

-- the token opens a level inside 16 others or more: those of what stands open around it
pub record IsTooDeep (tokens : List Token) (at : ℕ) : Type 0 where
  pub before : List Token
  pub token : Token
  pub rest : List Token
  pub stands : IsAt tokens at before token rest
  pub around : Open
  pub deep : deepest ≤ depth around
  pub opens : ((before ≡ text_open around []) × OpensOperand token.kind rest)
      ⊎ OpensUntil around before token.kind

-- ---- nodes

-- a word or `!` in the place of a unary
pub record BeginsUnary (before : List Token) (k : Kind) (nodes : ℕ) : Type 0 where
  pub around : Open
  pub text : before ≡ text_open around []
  pub count : nodes_open around ≡ nodes
  pub unary : (k ≡ kind.Bang) ⊎ ((w : Word) × (name : Name) × (k ≡ kind.Word w name))

-- the first `&` of an And
pub record IsFirstAmp (before : List Token) (k : Kind) (nodes : ℕ) : Type 0 where
  pub outer : Outer
  pub disjuncts : Before
  pub first : Unary
  pub text : before ≡ text_outer outer (text_before disjuncts (text_unary first []))
  pub count : nodes_outer outer + nodes_before disjuncts + nodes_unary first ≡ nodes
  pub amp : k ≡ kind.Amp

-- the first `|` of an Or
pub record IsFirstBar (before : List Token) (k : Kind) (nodes : ℕ) : Type 0 where
  pub outer : Outer
  pub first : Conjunction
  pub text : before ≡ text_outer outer (text_conjunction first [])
  pub count : nodes_outer outer + nodes_conjunction first ≡ nodes
  pub bar : k ≡ kind.Bar

-- the token is the place of a node, and so many nodes have theirs before it
abbrev pub IsNode : List Token → Kind → ℕ → Type 0
IsNode before k nodes =
    BeginsUnary before k nodes ⊎ (IsFirstAmp before k nodes ⊎ IsFirstBar before k nodes)

-- the token is the place of the 65th node or a later one
pub record IsTooMany (tokens : List Token) (at : ℕ) : Type 0 where
  pub before : List Token
  pub token : Token
  pub rest : List Token
  pub stands : IsAt tokens at before token rest
  pub nodes : ℕ
  pub many : most_nodes ≤ nodes
  pub node : IsNode before token.kind nodes

-- ---- all of them, and their order

-- a text of these tokens has such a fault at that place
abbrev pub HasFault : List Token → End → FormulaCode → ℕ → Type 0
HasFault tokens ending code.Token at = ending ≡ end.BadToken at
HasFault tokens ending code.Syntax at = IsUnexpected tokens at ⊎ IsUnfinished tokens ending at
HasFault tokens ending code.Number at = IsBadNumber tokens at
HasFault tokens ending code.TooDeep at = IsTooDeep tokens at
HasFault tokens ending code.TooManyNodes at = IsTooMany tokens at
HasFault tokens ending c at = ⊥

-- of two faults at one place the one of the lesser rank comes first
abbrev pub rank : FormulaCode → ℕ
rank code.Token = 0
rank code.Syntax = 1
rank code.Number = 2
rank code.TooDeep = 3
rank code.TooManyNodes = 4
rank c = 5

-- the fault is the other or comes before it: at a lesser place, or at the same place with no
-- greater rank
abbrev pub Precedes : FormulaFault → FormulaCode → ℕ → Type 0
Precedes fault c at = (fault.place < at) ⊎ ((fault.place ≡ at) × (rank fault.code ≤ rank c))
