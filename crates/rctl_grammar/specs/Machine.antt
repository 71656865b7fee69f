-- A reading of tokens from left to right: what of a derivation stands before a place, and what one
-- more token makes of it. It says which tokens a formula may go on with.
use Rattle.std.specs.Prelude.{ℕ, ℤ, Bool, true, false, List, [], ◌∷◌, Option, None, Some}
use Rattle.pota_names.specs.PassedOn.{◌>>=◌}
use Rattle.run_model.specs.Run.{Name}
use Rattle.run_model.specs.Formula as model
use Rattle.rctl_grammar.specs.declared.token.Kind.{Kind}
use Rattle.rctl_grammar.specs.declared.token.Kind.TheVariants as kind
use Rattle.rctl_grammar.specs.declared.token.Word.{Word}
use Rattle.rctl_grammar.specs.declared.token.Word.TheVariants as word
use Rattle.rctl_grammar.specs.declared.token.Token.{Token}
use Rattle.rctl_grammar.specs.declared.tree.Compare.{Compare}
use Rattle.rctl_grammar.specs.Grammar.{Spelled, Channel, Variable, number, variable, Leaf, constant}
use Rattle.rctl_grammar.specs.Grammar.{comparison, watch, transit, emptiness, Path, Disjunction}
use Rattle.rctl_grammar.specs.Grammar.{one_conjunction, or, Conjunction, one_unary, and, Unary}
use Rattle.rctl_grammar.specs.Grammar.{difference, leaf, negation, temporal, stepping, group, until}
use Rattle.rctl_grammar.specs.Grammar.{tok, spelled, named}
use Rattle.rctl_grammar.specs.Grammar.{word_of, path_word, text_channel, text_variable, text_path}
use Rattle.rctl_grammar.specs.Grammar.{text_disjunction, text_conjunction}

-- ---- what of a derivation stands there

-- "intransit" or "empty", whose channels are spelled alike
pub data ChannelWord : Type 0 where
  of_transit : ChannelWord
  of_emptiness : ChannelWord

-- the front of a leaf
pub data Front : Type 0 where
  -- process "." is read
  process_dot : (process : Spelled) (dot : ℕ) → Front
  left_side : (left : Variable) → Front
  compared : (left : Variable) (compare : Compare) (at : ℕ) → Front
  right_process : (left : Variable) (compare : Compare) (at : ℕ) (process : Spelled) → Front
  right_dot : (left : Variable) (compare : Compare) (at : ℕ) (process : Spelled) (dot : ℕ) → Front
  -- process "@" is read
  process_at : (process : Spelled) (at : ℕ) → Front
  channel_word : (word : ChannelWord) (name : Name) (at : ℕ) → Front
  channel_opened : (word : ChannelWord) (name : Name) (at : ℕ) (opened : ℕ) → Front
  channel_sender : (word : ChannelWord) (name : Name) (at : ℕ) (opened : ℕ) (sender : Spelled)
      → Front
  channel_comma : (word : ChannelWord) (name : Name) (at : ℕ) (opened : ℕ) (sender : Spelled)
      (comma : ℕ) → Front
  channel_receiver : (word : ChannelWord) (name : Name) (at : ℕ) (opened : ℕ) (sender : Spelled)
      (comma : ℕ) (receiver : Spelled) → Front
  -- "intransit" and its channel are read
  transit_channel : (name : Name) (at : ℕ) (channel : Channel) → Front
  transit_compared : (name : Name) (at : ℕ) (channel : Channel) (compare : Compare) (compare_at : ℕ)
      → Front
  -- the left variable and the "-" are read
  subtracting : (left : Variable) (minus : ℕ) → Front
  subtracted_process : (left : Variable) (minus : ℕ) (process : Spelled) → Front
  subtracted_dot : (left : Variable) (minus : ℕ) (process : Spelled) (dot : ℕ) → Front
  both_sides : (left : Variable) (minus : ℕ) (right : Variable) → Front
  difference_compared : (left : Variable) (minus : ℕ) (right : Variable) (compare : Compare)
      (compare_at : ℕ) → Front

-- the disjunction so far, with the bar behind it
pub data Before : Type 0 where
  nothing : Before
  bar : (d : Disjunction) (at : ℕ) → Before

mutual
  -- what stands before a disjunction
  pub data Outer : Type 0 where
    top : Outer
    in_group : (o : Open) (opened : ℕ) → Outer
    in_left : (o : Open) (path : Path) → Outer
    in_right : (o : Open) (path : Path) (left : Disjunction) (name : Name) (at : ℕ) → Outer

  -- what stands before a unary
  pub data Open : Type 0 where
    first_of : (outer : Outer) (before : Before) → Open
    next_of : (outer : Outer) (before : Before) (c : Conjunction) (at : ℕ) → Open
    in_negation : (o : Open) (at : ℕ) → Open
    in_temporal : (o : Open) (operator : model.Operator) (name : Name) (at : ℕ) → Open
    in_stepping : (o : Open) (name : Name) (at : ℕ) (process : Spelled) → Open

pub data State : Type 0 where
  -- a unary is wanted
  operand : (o : Open) → State
  -- a word stands in the place of a unary, and the next token says what it is
  a_word : (o : Open) (w : Spelled) → State
  in_leaf : (o : Open) (front : Front) → State
  -- "E" or "A" is read
  a_path : (o : Open) (all : Bool) (name : Name) (at : ℕ) → State
  -- "EX" is read, and the next word is a process, whichever word it is
  a_stepping : (o : Open) (name : Name) (at : ℕ) → State
  -- a conjunction is read, and may go on
  after : (outer : Outer) (before : Before) (c : Conjunction) → State

abbrev pub start : State
start = operand (first_of top nothing)

-- ---- one more token

-- the conjunction ends
abbrev pub joined : Before → Conjunction → Disjunction
joined nothing c = one_conjunction c
joined (bar d at) c = or d at c

-- a unary ends, and with it each `!` and each operator before it
abbrev pub plug : Open → Unary → State
plug (first_of outer before) u = after outer before (one_unary u)
plug (next_of outer before c at) u = after outer before (and c at u)
plug (in_negation o at) u = plug o (negation at u)
plug (in_temporal o operator name at) u = plug o (temporal operator name at u)
plug (in_stepping o name at process) u = plug o (stepping name at process u)

-- what a word is where neither `.` nor `@` follows
abbrev pub settled : Open → Spelled → Option State
settled o w = elim w.word as (λ v. Option State) [
  | word.Ef ↦ Some (operand (in_temporal o model.Ef w.name w.at))
  | word.Ag ↦ Some (operand (in_temporal o model.Ag w.name w.at))
  | word.Eg ↦ Some (operand (in_temporal o model.Eg w.name w.at))
  | word.Ex ↦ Some (a_stepping o w.name w.at)
  | word.Af ↦ Some (operand (in_temporal o model.Af w.name w.at))
  | word.Ax ↦ Some (operand (in_temporal o model.Ax w.name w.at))
  | word.E ↦ Some (a_path o false w.name w.at)
  | word.A ↦ Some (a_path o true w.name w.at)
  | word.U ↦ None
  | word.True ↦ Some (plug o (leaf (constant true w.name w.at)))
  | word.False ↦ Some (plug o (leaf (constant false w.name w.at)))
  | word.InTransit ↦ Some (in_leaf o (channel_word of_transit w.name w.at))
  | word.Empty ↦ Some (in_leaf o (channel_word of_emptiness w.name w.at))
  | word.Plain ↦ None
]

-- a leaf goes on, or it is whole
pub data LeafStep : Type 0 where
  going : (front : Front) → LeafStep
  whole : (l : Leaf) → LeafStep

abbrev pub step_channel : ChannelWord → Name → ℕ → Channel → LeafStep
step_channel of_transit name at channel = going (transit_channel name at channel)
step_channel of_emptiness name at channel = whole (emptiness name at channel)

-- what a token is, with its place, where it is that
abbrev pub word_in : Kind → ℕ → Option Spelled
word_in (kind.Word w name) at = Some (record { word = w; name = name; at = at })
word_in k at = None

abbrev pub compare_in : Kind → ℕ → Option (Compare × ℕ)
compare_in (kind.Compare c) at = Some (c, at)
compare_in k at = None

abbrev pub number_in : Kind → ℕ → Option (Option ℤ × ℕ)
number_in (kind.Number value) at = Some (value, at)
number_in k at = None

abbrev pub dot_in : Kind → ℕ → Option ℕ
dot_in kind.Dot at = Some at
dot_in k at = None

abbrev pub comma_in : Kind → ℕ → Option ℕ
comma_in kind.Comma at = Some at
comma_in k at = None

abbrev pub open_round_in : Kind → ℕ → Option ℕ
open_round_in kind.OpenRound at = Some at
open_round_in k at = None

abbrev pub close_round_in : Kind → ℕ → Option ℕ
close_round_in kind.CloseRound at = Some at
close_round_in k at = None

abbrev pub open_square_in : Kind → ℕ → Option ℕ
open_square_in kind.OpenSquare at = Some at
open_square_in k at = None

abbrev pub close_square_in : Kind → ℕ → Option ℕ
close_square_in kind.CloseSquare at = Some at
close_square_in k at = None

-- the word "U": its bytes and its place
abbrev pub until_in : Kind → ℕ → Option (Name × ℕ)
until_in (kind.Word word.U name) at = Some (name, at)
until_in k at = None

-- behind the left side: a comparison, or a difference
abbrev pub step_left : Variable → Kind → ℕ → Option LeafStep
step_left left (kind.Compare c) here = Some (going (compared left c here))
step_left left kind.Minus here = Some (going (subtracting left here))
step_left left k here = None

-- the right side begins: with a number it ends
abbrev pub step_side : Variable → Compare → ℕ → Kind → ℕ → Option LeafStep
step_side left compare at (kind.Number value) here =
    Some (whole (comparison left compare at (number value here)))
step_side left compare at (kind.Word w name) here =
    Some (going (right_process left compare at (record { word = w; name = name; at = here })))
step_side left compare at k here = None

abbrev pub step_leaf : Front → Kind → ℕ → Option LeafStep
step_leaf (process_dot process dot) k here =
    word_in k here >>= λ w. Some (going
    (left_side (record { process = process; dot = dot; variable = w })))
step_leaf (left_side left) k here = step_left left k here
step_leaf (compared left compare at) k here = step_side left compare at k here
step_leaf (right_process left compare at process) k here =
    dot_in k here >>= λ dot. Some (going (right_dot left compare at process dot))
step_leaf (right_dot left compare at process dot) k here = word_in k here >>= λ w.
    Some (whole (comparison left compare at
    (variable (record { process = process; dot = dot; variable = w }))))
step_leaf (process_at process at) k here = word_in k here >>= λ w. Some (whole (watch process at w))
step_leaf (channel_word w name at) k here =
    open_round_in k here >>= λ opened. Some (going (channel_opened w name at opened))
step_leaf (channel_opened w name at opened) k here =
    word_in k here >>= λ sender. Some (going (channel_sender w name at opened sender))
step_leaf (channel_sender w name at opened sender) k here =
    comma_in k here >>= λ comma. Some (going (channel_comma w name at opened sender comma))
step_leaf (channel_comma w name at opened sender comma) k here =
    word_in k here >>= λ receiver. Some
    (going (channel_receiver w name at opened sender comma receiver))
step_leaf (channel_receiver w name at opened sender comma receiver) k here =
    close_round_in k here >>= λ closed.
    Some (step_channel w name at (record
    { opened = opened; sender = sender; comma = comma; receiver = receiver; closed = closed }))
step_leaf (transit_channel name at channel) k here =
    compare_in k here >>= λ c. Some (going (transit_compared name at channel c.0 c.1))
step_leaf (transit_compared name at channel compare compare_at) k here =
    number_in k here >>= λ value.
    Some (whole (transit name at channel compare compare_at value.0 value.1))
step_leaf (subtracting left minus) k here =
    word_in k here >>= λ process. Some (going (subtracted_process left minus process))
step_leaf (subtracted_process left minus process) k here =
    dot_in k here >>= λ dot. Some (going (subtracted_dot left minus process dot))
step_leaf (subtracted_dot left minus process dot) k here =
    word_in k here >>= λ w. Some (going
    (both_sides left minus (record { process = process; dot = dot; variable = w })))
step_leaf (both_sides left minus right) k here =
    compare_in k here >>= λ c. Some (going (difference_compared left minus right c.0 c.1))
step_leaf (difference_compared left minus right compare compare_at) k here =
    number_in k here >>= λ value.
    Some (whole (difference left minus right compare compare_at value.0 value.1))

abbrev pub put_leaf : Open → LeafStep → State
put_leaf o (going front) = in_leaf o front
put_leaf o (whole l) = plug o (leaf l)

abbrev pub step_operand : Open → Kind → ℕ → Option State
step_operand o kind.Bang here = Some (operand (in_negation o here))
step_operand o kind.OpenRound here = Some (operand (first_of (in_group o here) nothing))
step_operand o (kind.Word w name) here =
    Some (a_word o (record { word = w; name = name; at = here }))
step_operand o k here = None

abbrev pub step_path : Open → Bool → Name → ℕ → Kind → ℕ → Option State
step_path o all name at k here = open_square_in k here >>= λ opened.
    Some (operand (first_of (in_left o
    (record { all = all; name = name; at = at; opened = opened })) nothing))

-- the process of "EX"
abbrev pub step_stepping : Open → Name → ℕ → Kind → ℕ → Option State
step_stepping o name at k here =
    word_in k here >>= λ process. Some (operand (in_stepping o name at process))

-- the disjunction ends. Behind the left side of an until the word "U" is its own
abbrev pub step_close : Outer → Disjunction → Kind → ℕ → Option State
step_close top d k here = None
step_close (in_group o opened) d k here =
    close_round_in k here >>= λ closed. Some (plug o (group opened d closed))
step_close (in_left o path) d k here =
    until_in k here >>= λ u. Some (operand (first_of (in_right o path d u.0 u.1) nothing))
step_close (in_right o path left name at) d k here =
    close_square_in k here >>= λ closed. Some (plug o (until path left name at d closed))

-- what may stand behind a conjunction
pub data Following : Type 0 where
  by_amp : Following
  by_bar : Following
  by_another : Following

abbrev pub following : Kind → Following
following kind.Amp = by_amp
following kind.Bar = by_bar
following k = by_another

abbrev pub step_after : Outer → Before → Conjunction → Following → Kind → ℕ → Option State
step_after outer before c by_amp k here = Some (operand (next_of outer before c here))
step_after outer before c by_bar k here =
    Some (operand (first_of outer (bar (joined before c) here)))
step_after outer before c by_another k here = step_close outer (joined before c) k here

-- a step of a state that no word waits in
abbrev pub step_now : State → Kind → ℕ → Option State
step_now (operand o) k here = step_operand o k here
step_now (a_word o w) k here = None
step_now (in_leaf o front) k here = step_leaf front k here >>= λ s. Some (put_leaf o s)
step_now (a_path o all name at) k here = step_path o all name at k here
step_now (a_stepping o name at) k here = step_stepping o name at k here
step_now (after outer before c) k here = step_after outer before c (following k) k here

-- what makes a word a name
pub data NameSign : Type 0 where
  by_dot : NameSign
  by_at : NameSign
  no_sign : NameSign

abbrev pub sign : Kind → NameSign
sign kind.Dot = by_dot
sign kind.At = by_at
sign k = no_sign

abbrev pub step_word : Open → Spelled → NameSign → Kind → ℕ → Option State
step_word o w by_dot k here = Some (in_leaf o (process_dot w here))
step_word o w by_at k here = Some (in_leaf o (process_at w here))
step_word o w no_sign k here = settled o w >>= λ s. step_now s k here

abbrev pub step_kind : State → Kind → ℕ → Option State
step_kind (a_word o w) k here = step_word o w (sign k) k here
step_kind (operand o) k here = step_now (operand o) k here
step_kind (in_leaf o front) k here = step_now (in_leaf o front) k here
step_kind (a_path o all name at) k here = step_now (a_path o all name at) k here
step_kind (a_stepping o name at) k here = step_now (a_stepping o name at) k here
step_kind (after outer before c) k here = step_now (after outer before c) k here

-- `None` where no formula goes on with the token
abbrev pub step : State → Token → Option State
step s t = step_kind s t.kind t.at

-- the state behind the tokens
abbrev pub run : State → List Token → Option State
run s [] = Some s
run s (t ∷ ts) = step s t >>= λ next. run next ts

-- the formula that is whole at the end of the text
abbrev pub whole_now : State → Option Disjunction
whole_now (after top before c) = Some (joined before c)
whole_now s = None

abbrev pub whole_of : State → Option Disjunction
whole_of (a_word o w) = settled o w >>= whole_now
whole_of s = whole_now s

-- the formula of these tokens
abbrev pub read : List Token → Option Disjunction
read tokens = run start tokens >>= whole_of

-- ---- the tokens that led to a state, and then the rest

abbrev pub channel_name : ChannelWord → Word
channel_name of_transit = word.InTransit
channel_name of_emptiness = word.Empty

abbrev pub text_compared : Variable → Compare → ℕ → List Token → List Token
text_compared left compare at rest = text_variable left (tok (kind.Compare compare) at ∷ rest)

abbrev pub text_front : Front → List Token → List Token
text_front (process_dot process dot) rest = named process ∷ tok kind.Dot dot ∷ rest
text_front (left_side left) rest = text_variable left rest
text_front (compared left compare at) rest = text_compared left compare at rest
text_front (right_process left compare at process) rest =
    text_compared left compare at (named process ∷ rest)
text_front (right_dot left compare at process dot) rest =
    text_compared left compare at (named process ∷ tok kind.Dot dot ∷ rest)
text_front (process_at process at) rest = named process ∷ tok kind.At at ∷ rest
text_front (channel_word w name at) rest = spelled (channel_name w) name at ∷ rest
text_front (channel_opened w name at opened) rest =
    spelled (channel_name w) name at ∷ tok kind.OpenRound opened ∷ rest
text_front (channel_sender w name at opened sender) rest =
    spelled (channel_name w) name at ∷ tok kind.OpenRound opened ∷ named sender ∷ rest
text_front (channel_comma w name at opened sender comma) rest =
    spelled (channel_name w) name at ∷ tok kind.OpenRound opened ∷ named sender
    ∷ tok kind.Comma comma ∷ rest
text_front (channel_receiver w name at opened sender comma receiver) rest =
    spelled (channel_name w) name at ∷ tok kind.OpenRound opened ∷ named sender
    ∷ tok kind.Comma comma ∷ named receiver ∷ rest
text_front (transit_channel name at channel) rest =
    spelled word.InTransit name at ∷ text_channel channel rest
text_front (transit_compared name at channel compare compare_at) rest =
    spelled word.InTransit name at ∷ text_channel channel
    (tok (kind.Compare compare) compare_at ∷ rest)
text_front (subtracting left minus) rest = text_variable left (tok kind.Minus minus ∷ rest)
text_front (subtracted_process left minus process) rest =
    text_variable left (tok kind.Minus minus ∷ named process ∷ rest)
text_front (subtracted_dot left minus process dot) rest =
    text_variable left (tok kind.Minus minus ∷ named process ∷ tok kind.Dot dot ∷ rest)
text_front (both_sides left minus right) rest =
    text_variable left (tok kind.Minus minus ∷ text_variable right rest)
text_front (difference_compared left minus right compare compare_at) rest =
    text_variable left (tok kind.Minus minus ∷ text_variable right
    (tok (kind.Compare compare) compare_at ∷ rest))

abbrev pub text_before : Before → List Token → List Token
text_before nothing rest = rest
text_before (bar d at) rest = text_disjunction d (tok kind.Bar at ∷ rest)

abbrev mutual
  pub text_outer : Outer → List Token → List Token
  text_outer top rest = rest
  text_outer (in_group o opened) rest = text_open o (tok kind.OpenRound opened ∷ rest)
  text_outer (in_left o path) rest = text_open o (text_path path rest)
  text_outer (in_right o path left name at) rest =
      text_open o (text_path path (text_disjunction left (spelled word.U name at ∷ rest)))

  pub text_open : Open → List Token → List Token
  text_open (first_of outer before) rest = text_outer outer (text_before before rest)
  text_open (next_of outer before c at) rest =
      text_outer outer (text_before before (text_conjunction c (tok kind.Amp at ∷ rest)))
  text_open (in_negation o at) rest = text_open o (tok kind.Bang at ∷ rest)
  text_open (in_temporal o operator name at) rest =
      text_open o (spelled (word_of operator) name at ∷ rest)
  text_open (in_stepping o name at process) rest =
      text_open o (spelled word.Ex name at ∷ named process ∷ rest)

abbrev pub text_of : State → List Token → List Token
text_of (operand o) rest = text_open o rest
text_of (a_word o w) rest = text_open o (named w ∷ rest)
text_of (in_leaf o front) rest = text_open o (text_front front rest)
text_of (a_path o all name at) rest = text_open o (spelled (path_word all) name at ∷ rest)
text_of (a_stepping o name at) rest = text_open o (spelled word.Ex name at ∷ rest)
text_of (after outer before c) rest =
    text_outer outer (text_before before (text_conjunction c rest))
