-- Each step keeps the tokens: those that led to a state, and then the token, are those that led to the next state.
use Rattle.std.specs.Prelude.{ℕ, Bool, true, false, List, [], ◌∷◌, ◌++◌, Option, None, Some}
use Rattle.std.proofs.Common.{◌≡◌, refl, sym, ◌∙◌, ap, subst}
use Rattle.std.proofs.lemmas.Option.{same_Some}
use Rattle.pota_base.specs.Number.{◌>>=◌}
use Rattle.run_model.specs.Run.{Name}
use Rattle.rctl_grammar.specs.declared.token.Kind.{Kind}
use Rattle.rctl_grammar.specs.declared.token.Kind.TheVariants as kind
use Rattle.rctl_grammar.specs.declared.token.Word.{Word}
use Rattle.rctl_grammar.specs.declared.token.Word.TheVariants as word
use Rattle.rctl_grammar.specs.declared.token.Token.{Token}
use Rattle.rctl_grammar.specs.Grammar.{Spelled, number, variable, constant, comparison, watch, transit, emptiness, difference, Disjunction, one_conjunction, or, Conjunction, Unary, leaf, negation, temporal, stepping, group, until, tok, spelled, named, text_disjunction, text_conjunction, text_unary}
use Rattle.rctl_grammar.specs.Machine.{ChannelWord, of_transit, of_emptiness, Front, process_dot, left_side, compared, right_process, right_dot, process_at, channel_word, channel_opened, channel_sender, channel_comma, channel_receiver, transit_channel, transit_compared, subtracting, subtracted_process, subtracted_dot, both_sides, difference_compared, Before, nothing, bar, Outer, top, in_group, in_left, in_right, Open, first_of, next_of, in_negation, in_temporal, in_stepping, State, operand, a_word, in_leaf, a_path, a_stepping, after, joined, plug, settled, step, step_close, step_now, step_kind, run, text_before, text_outer, text_open, text_of}

pub plug_text : (o : Open) (u : Unary) (r : List Token) → text_of (plug o u) r ≡ text_open o (text_unary u r)
plug_text (first_of outer before) u r = refl
plug_text (next_of outer before c at) u r = refl
plug_text (in_negation o at) u r = plug_text o (negation at u) r
plug_text (in_temporal o op name at) u r = plug_text o (temporal op name at u) r
plug_text (in_stepping o name at process) u r = plug_text o (stepping name at process u) r

pub joined_text : (before : Before) (c : Conjunction) (r : List Token) → text_disjunction (joined before c) r ≡ text_before before (text_conjunction c r)
joined_text nothing c r = refl
joined_text (bar d at) c r = refl

-- the tokens of a word are those of what it is
word-text : (o : Open) (w : Word) (name : Name) (at : ℕ) (s : State) → settled o (record { word = w; name = name; at = at }) ≡ Some s → (r : List Token) → text_open o (spelled w name at ∷ r) ≡ text_of s r
word-text o word.Ef name at s e r = ap (λ (x : State). text_of x r) (same_Some _ _ e)
word-text o word.Ag name at s e r = ap (λ (x : State). text_of x r) (same_Some _ _ e)
word-text o word.Eg name at s e r = ap (λ (x : State). text_of x r) (same_Some _ _ e)
word-text o word.Ex name at s e r = ap (λ (x : State). text_of x r) (same_Some _ _ e)
word-text o word.Af name at s e r = ap (λ (x : State). text_of x r) (same_Some _ _ e)
word-text o word.Ax name at s e r = ap (λ (x : State). text_of x r) (same_Some _ _ e)
word-text o word.E name at s e r = ap (λ (x : State). text_of x r) (same_Some _ _ e)
word-text o word.A name at s e r = ap (λ (x : State). text_of x r) (same_Some _ _ e)
word-text o word.U name at s e r = absurd cc
word-text o word.True name at s e r = sym (plug_text o (leaf (constant true name at)) r) ∙ ap (λ (x : State). text_of x r) (same_Some _ _ e)
word-text o word.False name at s e r = sym (plug_text o (leaf (constant false name at)) r) ∙ ap (λ (x : State). text_of x r) (same_Some _ _ e)
word-text o word.InTransit name at s e r = ap (λ (x : State). text_of x r) (same_Some _ _ e)
word-text o word.Empty name at s e r = ap (λ (x : State). text_of x r) (same_Some _ _ e)
word-text o word.Plain name at s e r = absurd cc

pub settled_text : (o : Open) (w : Spelled) (s : State) → settled o w ≡ Some s → (r : List Token) → text_open o (named w ∷ r) ≡ text_of s r
settled_text o w s e r = word-text o w.word w.name w.at s e r

-- ---- steps

abbrev Kept : (List Token → List Token) → Kind → ℕ → Option State → Type 0
Kept f k here None = Unit {0}
Kept f k here (Some s) = (r : List Token) → f (tok k here ∷ r) ≡ text_of s r

kept-along : (f g : List Token → List Token) (k : Kind) (here : ℕ) (next : Option State) → ((r : List Token) → f r ≡ g r) → Kept g k here next → Kept f k here next
kept-along f g k here None same h = tt
kept-along f g k here (Some s) same h = λ r. same (tok k here ∷ r) ∙ h r

keeps-operand : (o : Open) (k : Kind) (here : ℕ) → Kept (text_of (operand o)) k here (step_now (operand o) k here)
keeps-operand o kind.Bang here = λ r. refl
keeps-operand o kind.OpenRound here = λ r. refl
keeps-operand o (kind.Word w name) here = λ r. refl
keeps-operand o k here = tt

keeps-channel : (o : Open) (w : ChannelWord) (name : Name) (at opened : ℕ) (sender : Spelled) (comma : ℕ) (receiver : Spelled) (here : ℕ)
    → Kept (text_of (in_leaf o (channel_receiver w name at opened sender comma receiver))) kind.CloseRound here (step_now (in_leaf o (channel_receiver w name at opened sender comma receiver)) kind.CloseRound here)
keeps-channel o of_transit name at opened sender comma receiver here = λ r. refl
keeps-channel o of_emptiness name at opened sender comma receiver here =
    λ r. sym (plug_text o (leaf (emptiness name at (record { opened = opened; sender = sender; comma = comma; receiver = receiver; closed = here }))) r)

keeps-leaf : (o : Open) (front : Front) (k : Kind) (here : ℕ) → Kept (text_of (in_leaf o front)) k here (step_now (in_leaf o front) k here)
keeps-leaf o (process_dot process dot) (kind.Word w name) here = λ r. refl
keeps-leaf o (process_dot process dot) k here = tt
keeps-leaf o (left_side left) (kind.Compare c) here = λ r. refl
keeps-leaf o (left_side left) kind.Minus here = λ r. refl
keeps-leaf o (left_side left) k here = tt
keeps-leaf o (compared left compare at) (kind.Number value) here = λ r. sym (plug_text o (leaf (comparison left compare at (number value here))) r)
keeps-leaf o (compared left compare at) (kind.Word w name) here = λ r. refl
keeps-leaf o (compared left compare at) k here = tt
keeps-leaf o (right_process left compare at process) kind.Dot here = λ r. refl
keeps-leaf o (right_process left compare at process) k here = tt
keeps-leaf o (right_dot left compare at process dot) (kind.Word w name) here =
    λ r. sym (plug_text o (leaf (comparison left compare at (variable (record { process = process; dot = dot; variable = record { word = w; name = name; at = here } })))) r)
keeps-leaf o (right_dot left compare at process dot) k here = tt
keeps-leaf o (process_at process at) (kind.Word w name) here = λ r. sym (plug_text o (leaf (watch process at (record { word = w; name = name; at = here }))) r)
keeps-leaf o (process_at process at) k here = tt
keeps-leaf o (channel_word w name at) kind.OpenRound here = λ r. refl
keeps-leaf o (channel_word w name at) k here = tt
keeps-leaf o (channel_opened w name at opened) (kind.Word v sender) here = λ r. refl
keeps-leaf o (channel_opened w name at opened) k here = tt
keeps-leaf o (channel_sender w name at opened sender) kind.Comma here = λ r. refl
keeps-leaf o (channel_sender w name at opened sender) k here = tt
keeps-leaf o (channel_comma w name at opened sender comma) (kind.Word v receiver) here = λ r. refl
keeps-leaf o (channel_comma w name at opened sender comma) k here = tt
keeps-leaf o (channel_receiver w name at opened sender comma receiver) kind.CloseRound here = keeps-channel o w name at opened sender comma receiver here
keeps-leaf o (channel_receiver w name at opened sender comma receiver) k here = tt
keeps-leaf o (transit_channel name at channel) (kind.Compare c) here = λ r. refl
keeps-leaf o (transit_channel name at channel) k here = tt
keeps-leaf o (transit_compared name at channel compare compare_at) (kind.Number value) here = λ r. sym (plug_text o (leaf (transit name at channel compare compare_at value here)) r)
keeps-leaf o (transit_compared name at channel compare compare_at) k here = tt
keeps-leaf o (subtracting left minus) (kind.Word w name) here = λ r. refl
keeps-leaf o (subtracting left minus) k here = tt
keeps-leaf o (subtracted_process left minus process) kind.Dot here = λ r. refl
keeps-leaf o (subtracted_process left minus process) k here = tt
keeps-leaf o (subtracted_dot left minus process dot) (kind.Word w name) here = λ r. refl
keeps-leaf o (subtracted_dot left minus process dot) k here = tt
keeps-leaf o (both_sides left minus right) (kind.Compare c) here = λ r. refl
keeps-leaf o (both_sides left minus right) k here = tt
keeps-leaf o (difference_compared left minus right compare compare_at) (kind.Number value) here = λ r. sym (plug_text o (leaf (difference left minus right compare compare_at value here)) r)
keeps-leaf o (difference_compared left minus right compare compare_at) k here = tt

keeps-path : (o : Open) (all : Bool) (name : Name) (at : ℕ) (k : Kind) (here : ℕ) → Kept (text_of (a_path o all name at)) k here (step_now (a_path o all name at) k here)
keeps-path o all name at kind.OpenSquare here = λ r. refl
keeps-path o all name at k here = tt

keeps-stepping : (o : Open) (name : Name) (at : ℕ) (k : Kind) (here : ℕ) → Kept (text_of (a_stepping o name at)) k here (step_now (a_stepping o name at) k here)
keeps-stepping o name at (kind.Word w process) here = λ r. refl
keeps-stepping o name at k here = tt

keeps-close : (outer : Outer) (d : Disjunction) (k : Kind) (here : ℕ) → Kept (λ r. text_outer outer (text_disjunction d r)) k here (step_close outer d k here)
keeps-close top d k here = tt
keeps-close (in_group o opened) d kind.CloseRound here = λ r. sym (plug_text o (group opened d here) r)
keeps-close (in_group o opened) d k here = tt
keeps-close (in_left o path) d (kind.Word word.U name) here = λ r. refl
keeps-close (in_left o path) d k here = tt
keeps-close (in_right o path left name at) d kind.CloseSquare here = λ r. sym (plug_text o (until path left name at d here) r)
keeps-close (in_right o path left name at) d k here = tt

keeps-after : (outer : Outer) (before : Before) (c : Conjunction) (k : Kind) (here : ℕ) → Kept (text_of (after outer before c)) k here (step_now (after outer before c) k here)
keeps-after outer before c kind.Amp here = λ r. refl
keeps-after outer nothing c kind.Bar here = λ r. refl
keeps-after outer (bar d at) c kind.Bar here = λ r. refl
keeps-after outer nothing c k here = keeps-close outer (one_conjunction c) k here
keeps-after outer (bar d at) c k here = keeps-close outer (or d at c) k here

keeps-now : (s : State) (k : Kind) (here : ℕ) → Kept (text_of s) k here (step_now s k here)
keeps-now (operand o) k here = keeps-operand o k here
keeps-now (a_word o w) k here = tt
keeps-now (in_leaf o front) k here = keeps-leaf o front k here
keeps-now (a_path o all name at) k here = keeps-path o all name at k here
keeps-now (a_stepping o name at) k here = keeps-stepping o name at k here
keeps-now (after outer before c) k here = keeps-after outer before c k here

keeps-settled : (o : Open) (w : Spelled) (k : Kind) (here : ℕ) (next : Option State) → settled o w ≡ next → Kept (λ r. text_open o (named w ∷ r)) k here (next >>= λ s. step_now s k here)
keeps-settled o w k here None e = tt
keeps-settled o w k here (Some s) e = kept-along (λ r. text_open o (named w ∷ r)) (text_of s) k here (step_now s k here) (settled_text o w s e) (keeps-now s k here)

keeps-word : (o : Open) (w : Spelled) (k : Kind) (here : ℕ) → Kept (text_of (a_word o w)) k here (step_kind (a_word o w) k here)
keeps-word o w kind.Dot here = λ r. refl
keeps-word o w kind.At here = λ r. refl
keeps-word o w k here = keeps-settled o w k here (settled o w) refl

keeps : (s : State) (k : Kind) (here : ℕ) → Kept (text_of s) k here (step_kind s k here)
keeps (operand o) k here = keeps-operand o k here
keeps (a_word o w) k here = keeps-word o w k here
keeps (in_leaf o front) k here = keeps-leaf o front k here
keeps (a_path o all name at) k here = keeps-path o all name at k here
keeps (a_stepping o name at) k here = keeps-stepping o name at k here
keeps (after outer before c) k here = keeps-after outer before c k here

pub step_keeps : (s next : State) (t : Token) → step s t ≡ Some next → (r : List Token) → text_of s (t ∷ r) ≡ text_of next r
step_keeps s next t e r = subst (λ (x : Option State). Kept (text_of s) t.kind t.at x) e (keeps s t.kind t.at) r

pub bind_some : {A B : Type 0} (x : Option A) (f : A → Option B) (y : B) → (x >>= f) ≡ Some y → (a : A) × (x ≡ Some a) × (f a ≡ Some y)
bind_some None f y e = absurd cc
bind_some (Some a) f y e = (a, refl, e)

pub run_keeps : (ts : List Token) (s next : State) → run s ts ≡ Some next → (r : List Token) → text_of s (ts ++ r) ≡ text_of next r
run_keeps [] s next e r = ap (λ (x : State). text_of x r) (same_Some _ _ e)
run_keeps (t ∷ ts) s next e r =
    let b = bind_some (step s t) (λ x. run x ts) next e in
    step_keeps s b.0 t b.1 (ts ++ r) ∙ run_keeps ts b.0 next b.2 r
