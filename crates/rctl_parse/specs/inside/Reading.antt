-- What the functions of the parser read.
use Rattle.std.specs.Prelude.{◌≡◌, ℕ, ℤ, pos, ◌<◌, length, true, List, [], ◌∷◌, Option, None, Some}
use Rattle.pota_base.specs.declared.fault.Refused.{Refused}
use Rattle.rctl_grammar.specs.declared.token.Kind.{Kind}
use Rattle.rctl_grammar.specs.declared.token.Kind.TheVariants as kind
use Rattle.rctl_grammar.specs.declared.token.Word.TheVariants as word
use Rattle.rctl_grammar.specs.declared.token.Token.{Token}
use Rattle.rctl_grammar.specs.declared.token.End.{End}
use Rattle.rctl_grammar.specs.declared.token.End.TheVariants as end
use Rattle.rctl_grammar.specs.declared.fault.FormulaFault.{FormulaFault}
use Rattle.run_model.specs.Run.{Name}
use Rattle.rctl_grammar.specs.declared.tree.Compare.{Compare}
use Rattle.rctl_grammar.specs.declared.tree.Place.{Place}
use Rattle.rctl_grammar.specs.declared.tree.Side.{Side}
use Rattle.rctl_grammar.specs.declared.tree.Atom.{Atom}
use Rattle.rctl_grammar.specs.Grammar.{Channel, Variable, RightSide, Leaf, comparison, tok}
use Rattle.rctl_grammar.specs.Grammar.{placed_name, side_of, side_in_range, atom_of, first_token}
use Rattle.rctl_grammar.specs.Grammar.{leaf_in_range, text_leaf}
use Rattle.rctl_grammar.specs.Machine.{Front, compared, channel_word, ChannelWord, LeafStep, going}
use Rattle.rctl_grammar.specs.Machine.{whole, Open, in_leaf, put_leaf, step_channel, text_front}
use Rattle.rctl_grammar.specs.Machine.{open_round_in, close_round_in, open_square_in}
use Rattle.rctl_grammar.specs.Machine.{close_square_in, comma_in, dot_in}
use Rattle.rctl_grammar.specs.FirstFault.{syntax_at, token_at, fault_of}
use Rattle.rctl_parse.specs.declared.symbol.Symbol.{Symbol}
use Rattle.rctl_parse.specs.declared.symbol.Symbol.TheVariants as symbol
use Rattle.rctl_parse.specs.Reading.{Faults}

-- ---- looking at the first token

abbrev pub beside : {A : Type 0} → Option A → List Token → Option (A × List Token)
beside None ts = None
beside (Some x) ts = Some (x, ts)

-- what it is, and the tokens behind it
abbrev pub found : {A : Type 0} → (Kind → ℕ → Option A) → List Token → Option (A × List Token)
found look [] = None
found look (t ∷ ts) = beside (look t.kind t.at) ts

-- the text ends inside a formula
abbrev pub cut_short : End → FormulaFault
cut_short (end.Ends at) = syntax_at at
cut_short (end.BadToken at) = token_at at

-- no formula goes on here
abbrev pub here : List Token → End → FormulaFault
here [] ending = cut_short ending
here (t ∷ ts) ending = syntax_at t.at

abbrev pub at_in : Kind → ℕ → Option ℕ
at_in kind.At at = Some at
at_in k at = None

abbrev pub amp_in : Kind → ℕ → Option ℕ
amp_in kind.Amp at = Some at
amp_in k at = None

abbrev pub bar_in : Kind → ℕ → Option ℕ
bar_in kind.Bar at = Some at
bar_in k at = None

abbrev pub minus_in : Kind → ℕ → Option ℕ
minus_in kind.Minus at = Some at
minus_in k at = None

abbrev pub until_at : Kind → ℕ → Option ℕ
until_at (kind.Word word.U name) at = Some at
until_at k at = None

abbrev pub symbol_in : Symbol → Kind → ℕ → Option ℕ
symbol_in symbol.OpenRound = open_round_in
symbol_in symbol.CloseRound = close_round_in
symbol_in symbol.OpenSquare = open_square_in
symbol_in symbol.CloseSquare = close_square_in
symbol_in symbol.Comma = comma_in
symbol_in symbol.Dot = dot_in
symbol_in symbol.At = at_in
symbol_in symbol.Amp = amp_in
symbol_in symbol.Bar = bar_in
symbol_in symbol.Minus = minus_in
symbol_in symbol.Until = until_at

-- a token that was looked for isn't there
abbrev pub Misses : {A : Type 0} → (Kind → ℕ → Option A) → List Token → End → Refused FormulaFault
    → Type 0
Misses look ts ending stop = Faults stop (λ f. (found look ts ≡ None) × (f ≡ here ts ending))

-- ---- leaves

-- a word's name with its place
abbrev pub place_in : Kind → ℕ → Option Place
place_in (kind.Word w name) at = Some (record { name = name; at = at })
place_in k at = None

abbrev pub comparison_in : Kind → ℕ → Option Compare
comparison_in (kind.Compare c) at = Some c
comparison_in k at = None

-- a number that isn't negative
abbrev pub CountRead : List Token → List Token → ℕ → Type 0
CountRead ts rest k = (at : ℕ) × (ts ≡ tok (kind.Number (Some (pos k))) at ∷ rest)

-- a number in the range of 64 bits
abbrev pub BoundRead : List Token → List Token → ℤ → Type 0
BoundRead ts rest k = (at : ℕ) × (ts ≡ tok (kind.Number (Some k)) at ∷ rest)

-- the first fault is this one, whatever stands around the leaf
abbrev pub LeafFault : Front → List Token → End → FormulaFault → Type 0
LeafFault front ts ending f = (o : Open) → fault_of (in_leaf o front) ts ending ≡ Some f

abbrev pub text_step : LeafStep → List Token → List Token
text_step (going front) rest = text_front front rest
text_step (whole l) rest = text_leaf l rest

-- from behind a front to the rest a leaf goes on to this step, whatever stands around it
pub record Moves (front : Front) (ts rest : List Token) (ending : End) (next : LeafStep) : Type 0
  where
    pub text : text_front front ts ≡ text_step next rest
    pub goes : (o : Open) → fault_of (in_leaf o front) ts ending
        ≡ fault_of (put_leaf o next) rest ending
    pub shorter : length rest < length ts

-- a leaf is read from behind its front to the rest: its atom, and the place of its first token
pub record LeafRead (front : Front) (ts rest : List Token) (ending : End) (a : Atom) (at : ℕ) : Type
    0 where
  pub l : Leaf
  pub atom : atom_of l ≡ a
  pub place : first_token l ≡ at
  pub in_range : leaf_in_range l ≡ true
  pub moves : Moves front ts rest ending (whole l)

-- the right side of a comparison
pub record SideRead (ts rest : List Token) (ending : End) (s : Side) : Type 0 where
  pub r : RightSide
  pub side : side_of r ≡ s
  pub in_range : side_in_range r ≡ true
  pub moves : (left : Variable) (c : Compare) (at : ℕ)
      → Moves (compared left c at) ts rest ending (whole (comparison left c at r))

-- the two processes of a channel
pub record ChannelRead (ts rest : List Token) (ending : End) (sender receiver : Place) : Type 0
  where
    pub c : Channel
    pub sender_is : placed_name c.sender ≡ sender
    pub receiver_is : placed_name c.receiver ≡ receiver
    pub moves : (w : ChannelWord) (name : Name) (at : ℕ)
        → Moves (channel_word w name at) ts rest ending (step_channel w name at c)
