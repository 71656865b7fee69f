-- The parser's leaves: what each token makes of a front.
use Rattle.std.specs.Prelude.{ℕ, ℤ, ◌<◌, length, List, [], ◌∷◌, Option, None, Some, Result, Ok, Err, MatchResult}
use Rattle.std.specs.Result.{IsErrAnd}
use Rattle.std.proofs.Common.{◌≡◌, refl, sym, ◌∙◌, ap, subst, arith}
use Rattle.pota_base.specs.Number.{◌>>=◌}
use Rattle.pota_base.specs.declared.fault.Refused.{Refused}
use Rattle.pota_base.specs.declared.fault.Refused.TheVariants as refused
use Rattle.run_model.specs.Run.{Name}
use Rattle.rctl_grammar.specs.declared.token.Kind.{Kind}
use Rattle.rctl_grammar.specs.declared.token.Kind.TheVariants as kind
use Rattle.rctl_grammar.specs.declared.token.Token.{Token}
use Rattle.rctl_grammar.specs.declared.token.End.{End}
use Rattle.rctl_grammar.specs.declared.token.End.TheVariants as end
use Rattle.rctl_grammar.specs.declared.fault.FormulaFault.{FormulaFault}
use Rattle.rctl_grammar.specs.declared.tree.Compare.{Compare}
use Rattle.rctl_grammar.specs.declared.tree.Place.{Place}
use Rattle.rctl_grammar.specs.Grammar.{Spelled, Channel, Variable, variable, comparison, watch, tok, named, placed_name}
use Rattle.rctl_grammar.specs.Machine.{Front, process_dot, left_side, compared, right_process, right_dot, process_at, channel_word, channel_opened, channel_sender, channel_comma, channel_receiver, transit_channel, transit_compared, subtracting, subtracted_process, subtracted_dot, both_sides, difference_compared, ChannelWord, of_transit, of_emptiness, LeafStep, going, whole, step_left, step_leaf, step_channel, put_leaf, Open, in_leaf, text_front, word_in, compare_in, number_in, dot_in, comma_in, open_round_in, close_round_in}
use Rattle.rctl_grammar.specs.FirstFault.{front_limit, fault_of, placed, then_on}
use Rattle.rctl_parse.specs.Reading.{Faults}
use Rattle.rctl_parse.specs.inside.Reading.{beside, found, here, minus_in, place_in, comparison_in, LeafFault, Moves, text_step}

-- ---- what stops a call that called another

pub for_fault : {Is IsToo : FormulaFault → Type 0} (stop : Refused FormulaFault) → ((f : FormulaFault) → Is f → IsToo f) → Faults stop Is → Faults stop IsToo
for_fault (refused.Fault f) more h = more f h
for_fault refused.NoMemory more h = tt

-- a `?` passes on what stopped the call before it
pub passes_on : {T : Type 0} (Is IsToo : FormulaFault → Type 0) (Read : T → Type 0) (stop : Refused FormulaFault) (answer : Result T (Refused FormulaFault)) (Given : Refused FormulaFault → Type 0)
    → IsErrAnd answer Given → ((y : Refused FormulaFault) → Given y → y ≡ stop) → Faults stop Is → ((f : FormulaFault) → Is f → IsToo f) → MatchResult answer Read (λ s. Faults s IsToo)
passes_on Is IsToo Read stop (Ok x) Given given same h more = absurd given
passes_on Is IsToo Read stop (Err y) Given given same h more = subst (λ (s : Refused FormulaFault). Faults s IsToo) (sym (same y given)) (for_fault stop more h)

-- a call that stops with this fault
pub stops_with : (Is : FormulaFault → Type 0) (stop : Refused FormulaFault) (fault : FormulaFault) → stop ≡ refused.Fault fault → Is fault → Faults stop Is
stops_with Is stop fault same h = subst (λ (s : Refused FormulaFault). Faults s Is) (sym same) h

-- ---- a front that looks for one token

pair_in : {A : Type 0} → A × List Token → Option (A × List Token) → A × List Token
pair_in p None = p
pair_in p (Some q) = q

pub beside_is : {A : Type 0} (x : Option A) (ts rest : List Token) (a : A) → beside x ts ≡ Some (a, rest) → (x ≡ Some a) × (ts ≡ rest)
unfolding pair_in
beside_is None ts rest a h = cc
beside_is (Some v) ts rest a h = (ap (λ q. Some (pair_in (v, ts) q).0) h, ap (λ q. (pair_in (v, ts) q).1) h)

-- the token is there
taken : {A : Type 0} (x : Option A) (next : A → LeafStep) (o : Open) (ts rest : List Token) (ending : End) (at : ℕ) (a : A)
    → beside x ts ≡ Some (a, rest)
    → then_on (placed None ((x >>= λ v. Some (next v)) >>= λ s. Some (put_leaf o s)) at) (λ s. fault_of s ts ending) ≡ fault_of (put_leaf o (next a)) rest ending
taken None next o ts rest ending at a h = cc
taken (Some v) next o ts rest ending at a h = let parts = beside_is (Some v) ts rest a h in let same : v ≡ a = let e = parts.0 in cc in
    ap (λ p. fault_of (put_leaf o (next p)) ts ending) same ∙ ap (λ p. fault_of (put_leaf o (next a)) p ending) parts.1

-- the token is another
missing : {A : Type 0} (x : Option A) (next : A → LeafStep) (o : Open) (ts : List Token) (ending : End) (t : Token)
    → beside x ts ≡ None
    → then_on (placed None ((x >>= λ v. Some (next v)) >>= λ s. Some (put_leaf o s)) t.at) (λ s. fault_of s ts ending) ≡ Some (here (t ∷ ts) ending)
missing None next o ts ending t h = refl
missing (Some v) next o ts ending t h = cc

-- a front goes on by looking for one token, which breaks no limit
pub record Looks {A : Type 0} (look : Kind → ℕ → Option A) (token : A → Token) (front : Front) (next : A → LeafStep) : Type 0 where
  pub steps : (k : Kind) (at : ℕ) → step_leaf front k at ≡ (look k at >>= λ a. Some (next a))
  pub limits : (k : Kind) (at : ℕ) → front_limit front k at ≡ None
  pub tokens : (k : Kind) (at : ℕ) (a : A) → look k at ≡ Some a → tok k at ≡ token a
  pub texts : (a : A) (rest : List Token) → text_front front (token a ∷ rest) ≡ text_step (next a) rest

goes_on : {A : Type 0} (look : Kind → ℕ → Option A) (token : A → Token) (front : Front) (next : A → LeafStep) → Looks look token front next
    → (ts rest : List Token) (ending : End) (a : A) → found look ts ≡ Some (a, rest)
    → (o : Open) → fault_of (in_leaf o front) ts ending ≡ fault_of (put_leaf o (next a)) rest ending
goes_on look token front next l [] rest ending a h o = cc
goes_on look token front next l (t ∷ ts) rest ending a h o = rw (l.limits t.kind t.at, l.steps t.kind t.at) (taken (look t.kind t.at) next o ts rest ending t.at a h)

pub found_is : {A : Type 0} (look : Kind → ℕ → Option A) (token : A → Token) → ((k : Kind) (at : ℕ) (a : A) → look k at ≡ Some a → tok k at ≡ token a)
    → (ts rest : List Token) (a : A) → found look ts ≡ Some (a, rest) → ts ≡ token a ∷ rest
found_is look token is [] rest a h = cc
found_is look token is (t ∷ ts) rest a h = let parts = beside_is (look t.kind t.at) ts rest a h in
    ap (λ x. x ∷ ts) (is t.kind t.at a parts.0) ∙ ap (λ x. token a ∷ x) parts.1

pub longer : (t : Token) (ts rest : List Token) → ts ≡ t ∷ rest → length rest < length ts
longer t ts rest h = rw h (omega arith)

pub found_shorter : {A : Type 0} (look : Kind → ℕ → Option A) (ts rest : List Token) (a : A) → found look ts ≡ Some (a, rest) → length rest < length ts
found_shorter look [] rest a h = cc
found_shorter look (t ∷ ts) rest a h = let parts = beside_is (look t.kind t.at) ts rest a h in rw (sym parts.1) (omega arith)

pub moves : {A : Type 0} (look : Kind → ℕ → Option A) (token : A → Token) (front : Front) (next : A → LeafStep) → Looks look token front next
    → (ts rest : List Token) (ending : End) (a : A) → found look ts ≡ Some (a, rest) → Moves front ts rest ending (next a)
moves look token front next l ts rest ending a h = let is = found_is look token l.tokens ts rest a h in record {
  text = ap (text_front front) is ∙ l.texts a rest;
  goes = goes_on look token front next l ts rest ending a h;
  shorter = longer (token a) ts rest is;
}

cut : (o : Open) (front : Front) (ending : End) → fault_of (in_leaf o front) [] ending ≡ Some (here [] ending)
cut o front (end.Ends at) = refl
cut o front (end.BadToken at) = refl

pub stops : {A : Type 0} (look : Kind → ℕ → Option A) (token : A → Token) (front : Front) (next : A → LeafStep) → Looks look token front next
    → (ts : List Token) (ending : End) (f : FormulaFault) → (found look ts ≡ None) × (f ≡ here ts ending) → LeafFault front ts ending f
stops look token front next l [] ending f h o = cut o front ending ∙ ap Some (sym h.1)
stops look token front next l (t ∷ ts) ending f h o = rw (l.limits t.kind t.at, l.steps t.kind t.at) (missing (look t.kind t.at) next o ts ending t h.0) ∙ ap Some (sym h.1)

-- ---- one step behind another

pub and_then : (front middle : Front) (ts more rest : List Token) (ending : End) (next : LeafStep)
    → Moves front ts more ending (going middle) → Moves middle more rest ending next → Moves front ts rest ending next
and_then front middle ts more rest ending next m n = record {
  text = m.text ∙ n.text;
  goes = λ o. m.goes o ∙ n.goes o;
  shorter = omega (arith, m.shorter, n.shorter);
}

pub then_fault : (front middle : Front) (ts more : List Token) (ending : End) (f : FormulaFault)
    → Moves front ts more ending (going middle) → LeafFault middle more ending f → LeafFault front ts ending f
then_fault front middle ts more ending f m n o = m.goes o ∙ n o

-- ---- the tokens

pub word_is : (k : Kind) (at : ℕ) (w : Spelled) → word_in k at ≡ Some w → tok k at ≡ named w
word_is (kind.Word w name) at found_w h = let same : record { word = w; name = name; at = at } ≡ found_w = cc in ap named same
word_is k at w h = cc

abbrev pub compare_token : Compare × ℕ → Token
compare_token c = tok (kind.Compare c.0) c.1

compare_is : (k : Kind) (at : ℕ) (c : Compare × ℕ) → compare_in k at ≡ Some c → tok k at ≡ compare_token c
compare_is (kind.Compare c) at found_c h = let same : (c, at) ≡ found_c = cc in ap compare_token same
compare_is k at c h = cc

abbrev pub number_token : Option ℤ × ℕ → Token
number_token n = tok (kind.Number n.0) n.1

pub number_is : (k : Kind) (at : ℕ) (n : Option ℤ × ℕ) → number_in k at ≡ Some n → tok k at ≡ number_token n
number_is (kind.Number value) at n h = let same : (value, at) ≡ n = cc in ap number_token same
number_is k at n h = cc

dot_is : (k : Kind) (at a : ℕ) → dot_in k at ≡ Some a → tok k at ≡ tok kind.Dot a
dot_is kind.Dot at a h = let same : at ≡ a = cc in ap (tok kind.Dot) same
dot_is k at a h = cc

comma_is : (k : Kind) (at a : ℕ) → comma_in k at ≡ Some a → tok k at ≡ tok kind.Comma a
comma_is kind.Comma at a h = let same : at ≡ a = cc in ap (tok kind.Comma) same
comma_is k at a h = cc

pub open_round_is : (k : Kind) (at a : ℕ) → open_round_in k at ≡ Some a → tok k at ≡ tok kind.OpenRound a
open_round_is kind.OpenRound at a h = let same : at ≡ a = cc in ap (tok kind.OpenRound) same
open_round_is k at a h = cc

pub close_round_is : (k : Kind) (at a : ℕ) → close_round_in k at ≡ Some a → tok k at ≡ tok kind.CloseRound a
close_round_is kind.CloseRound at a h = let same : at ≡ a = cc in ap (tok kind.CloseRound) same
close_round_is k at a h = cc

-- a name that was read is a word
named_word : (k : Kind) (at : ℕ) (p : Place) → place_in k at ≡ Some p → (w : Spelled) × (word_in k at ≡ Some w) × (placed_name w ≡ p)
named_word (kind.Word w name) at p h = (record { word = w; name = name; at = at }, refl, cc)
named_word k at p h = cc

pub place_word : (ts rest : List Token) (p : Place) → found place_in ts ≡ Some (p, rest) → (w : Spelled) × (found word_in ts ≡ Some (w, rest)) × (placed_name w ≡ p)
place_word [] rest p h = cc
place_word (t ∷ ts) rest p h = let parts = beside_is (place_in t.kind t.at) ts rest p h in let is = named_word t.kind t.at p parts.0 in
    (is.0, ap (λ x. beside x ts) is.1 ∙ ap (λ x. Some (is.0, x)) parts.1, is.2)

compare_place : (k : Kind) (at : ℕ) (c : Compare) → comparison_in k at ≡ Some c → compare_in k at ≡ Some (c, at)
compare_place (kind.Compare c) at d h = let same : c ≡ d = cc in ap (λ x. Some (x, at)) same
compare_place k at c h = cc

pub compare_word : (ts rest : List Token) (c : Compare) → found comparison_in ts ≡ Some (c, rest) → (at : ℕ) × (found compare_in ts ≡ Some ((c, at), rest))
compare_word [] rest c h = cc
compare_word (t ∷ ts) rest c h = let parts = beside_is (comparison_in t.kind t.at) ts rest c h in
    (t.at, ap (λ x. beside x ts) (compare_place t.kind t.at c parts.0) ∙ ap (λ x. Some ((c, t.at), x)) parts.1)

-- ---- the fronts

abbrev pub variable_of : Spelled → ℕ → Spelled → Variable
variable_of process dot w = record { process = process; dot = dot; variable = w }

pub behind_dot : (p : Spelled) (dot : ℕ) → Looks word_in named (process_dot p dot) (λ w. going (left_side (variable_of p dot w)))
behind_dot p dot = record { steps = λ k at. refl; limits = λ k at. refl; tokens = word_is; texts = λ a rest. refl }

pub behind_right : (left : Variable) (c : Compare) (at : ℕ) (process : Spelled) → Looks dot_in (tok kind.Dot) (right_process left c at process) (λ dot. going (right_dot left c at process dot))
behind_right left c at process = record { steps = λ k at. refl; limits = λ k at. refl; tokens = dot_is; texts = λ a rest. refl }

pub behind_right_dot : (left : Variable) (c : Compare) (at : ℕ) (process : Spelled) (dot : ℕ)
    → Looks word_in named (right_dot left c at process dot) (λ w. whole (comparison left c at (variable (variable_of process dot w))))
behind_right_dot left c at process dot = record { steps = λ k at. refl; limits = λ k at. refl; tokens = word_is; texts = λ a rest. refl }

pub behind_at : (p : Spelled) (at : ℕ) → Looks word_in named (process_at p at) (λ w. whole (watch p at w))
behind_at p at = record { steps = λ k at. refl; limits = λ k at. refl; tokens = word_is; texts = λ a rest. refl }

pub behind_channel_word : (w : ChannelWord) (name : Name) (at : ℕ) → Looks open_round_in (tok kind.OpenRound) (channel_word w name at) (λ opened. going (channel_opened w name at opened))
behind_channel_word w name at = record { steps = λ k at. refl; limits = λ k at. refl; tokens = open_round_is; texts = λ a rest. refl }

pub behind_opened : (w : ChannelWord) (name : Name) (at opened : ℕ) → Looks word_in named (channel_opened w name at opened) (λ sender. going (channel_sender w name at opened sender))
behind_opened w name at opened = record { steps = λ k at. refl; limits = λ k at. refl; tokens = word_is; texts = λ a rest. refl }

pub behind_sender : (w : ChannelWord) (name : Name) (at opened : ℕ) (sender : Spelled)
    → Looks comma_in (tok kind.Comma) (channel_sender w name at opened sender) (λ comma. going (channel_comma w name at opened sender comma))
behind_sender w name at opened sender = record { steps = λ k at. refl; limits = λ k at. refl; tokens = comma_is; texts = λ a rest. refl }

pub behind_comma : (w : ChannelWord) (name : Name) (at opened : ℕ) (sender : Spelled) (comma : ℕ)
    → Looks word_in named (channel_comma w name at opened sender comma) (λ receiver. going (channel_receiver w name at opened sender comma receiver))
behind_comma w name at opened sender comma = record { steps = λ k at. refl; limits = λ k at. refl; tokens = word_is; texts = λ a rest. refl }

abbrev pub channel_of : ℕ → Spelled → ℕ → Spelled → ℕ → Channel
channel_of opened sender comma receiver closed = record { opened = opened; sender = sender; comma = comma; receiver = receiver; closed = closed }

channel_text : (w : ChannelWord) (name : Name) (at opened : ℕ) (sender : Spelled) (comma : ℕ) (receiver : Spelled) (closed : ℕ) (rest : List Token)
    → text_front (channel_receiver w name at opened sender comma receiver) (tok kind.CloseRound closed ∷ rest) ≡ text_step (step_channel w name at (channel_of opened sender comma receiver closed)) rest
channel_text of_transit name at opened sender comma receiver closed rest = refl
channel_text of_emptiness name at opened sender comma receiver closed rest = refl

pub behind_receiver : (w : ChannelWord) (name : Name) (at opened : ℕ) (sender : Spelled) (comma : ℕ) (receiver : Spelled)
    → Looks close_round_in (tok kind.CloseRound) (channel_receiver w name at opened sender comma receiver) (λ closed. step_channel w name at (channel_of opened sender comma receiver closed))
behind_receiver w name at opened sender comma receiver =
    record { steps = λ k at. refl; limits = λ k at. refl; tokens = close_round_is; texts = channel_text w name at opened sender comma receiver }

pub behind_minus : (left : Variable) (minus : ℕ) → Looks word_in named (subtracting left minus) (λ w. going (subtracted_process left minus w))
behind_minus left minus = record { steps = λ k at. refl; limits = λ k at. refl; tokens = word_is; texts = λ a rest. refl }

pub behind_subtracted : (left : Variable) (minus : ℕ) (process : Spelled) → Looks dot_in (tok kind.Dot) (subtracted_process left minus process) (λ dot. going (subtracted_dot left minus process dot))
behind_subtracted left minus process = record { steps = λ k at. refl; limits = λ k at. refl; tokens = dot_is; texts = λ a rest. refl }

pub behind_subtracted_dot : (left : Variable) (minus : ℕ) (process : Spelled) (dot : ℕ)
    → Looks word_in named (subtracted_dot left minus process dot) (λ w. going (both_sides left minus (variable_of process dot w)))
behind_subtracted_dot left minus process dot = record { steps = λ k at. refl; limits = λ k at. refl; tokens = word_is; texts = λ a rest. refl }

pub behind_both : (left : Variable) (minus : ℕ) (right : Variable) → Looks compare_in compare_token (both_sides left minus right) (λ c. going (difference_compared left minus right c.0 c.1))
behind_both left minus right = record { steps = λ k at. refl; limits = λ k at. refl; tokens = compare_is; texts = λ a rest. refl }

pub behind_channel : (name : Name) (at : ℕ) (c : Channel) → Looks compare_in compare_token (transit_channel name at c) (λ x. going (transit_compared name at c x.0 x.1))
behind_channel name at c = record { steps = λ k at. refl; limits = λ k at. refl; tokens = compare_is; texts = λ a rest. refl }

-- a process on the right side
word_on_the_right : (left : Variable) (c : Compare) (at : ℕ) (k : Kind) (here_at : ℕ) (ts : List Token) (ending : End) (w : Spelled) → word_in k here_at ≡ Some w
    → Moves (compared left c at) (tok k here_at ∷ ts) ts ending (going (right_process left c at w))
word_on_the_right left c at (kind.Word v name) here_at ts ending w h = let same : record { word = v; name = name; at = here_at } ≡ w = cc in
    subst (λ (x : Spelled). Moves (compared left c at) (tok (kind.Word v name) here_at ∷ ts) ts ending (going (right_process left c at x))) same
    (record { text = refl; goes = λ o. refl; shorter = omega arith })
word_on_the_right left c at k here_at ts ending w h = cc

-- a front that goes on by the first token, where that is what is looked for
by_first : {A : Type 0} (look : Kind → ℕ → Option A) (front : Front) (next : A → LeafStep) (ts rest : List Token) (ending : End) (a : A)
    → ((k : Kind) (here_at : ℕ) (more : List Token) → look k here_at ≡ Some a → Moves front (tok k here_at ∷ more) more ending (next a))
    → found look ts ≡ Some (a, rest) → Moves front ts rest ending (next a)
by_first look front next [] rest ending a move h = cc
by_first look front next (t ∷ ts) rest ending a move h = let parts = beside_is (look t.kind t.at) ts rest a h in
    subst (λ (x : List Token). Moves front (t ∷ ts) x ending (next a)) parts.1 (move t.kind t.at ts parts.0)

pub process_on_the_right : (left : Variable) (c : Compare) (at : ℕ) (ts rest : List Token) (ending : End) (w : Spelled) → found word_in ts ≡ Some (w, rest)
    → Moves (compared left c at) ts rest ending (going (right_process left c at w))
process_on_the_right left c at ts rest ending w h =
    by_first word_in (compared left c at) (λ v. going (right_process left c at v)) ts rest ending w (λ k here_at more is. word_on_the_right left c at k here_at more ending w is) h

-- behind the left side stands a comparison's sign or a `-`
sign_on_the_left : (left : Variable) (k : Kind) (here_at : ℕ) (ts : List Token) (ending : End) (c : Compare × ℕ) → compare_in k here_at ≡ Some c
    → Moves (left_side left) (tok k here_at ∷ ts) ts ending (going (compared left c.0 c.1))
sign_on_the_left left (kind.Compare d) here_at ts ending c h = let same : (d, here_at) ≡ c = cc in
    subst (λ (x : Compare × ℕ). Moves (left_side left) (tok (kind.Compare d) here_at ∷ ts) ts ending (going (compared left x.0 x.1))) same
    (record { text = refl; goes = λ o. refl; shorter = omega arith })
sign_on_the_left left k here_at ts ending c h = cc

pub compared_on_the_left : (left : Variable) (ts rest : List Token) (ending : End) (c : Compare × ℕ) → found compare_in ts ≡ Some (c, rest)
    → Moves (left_side left) ts rest ending (going (compared left c.0 c.1))
compared_on_the_left left ts rest ending c h =
    by_first compare_in (left_side left) (λ x. going (compared left x.0 x.1)) ts rest ending c (λ k here_at more is. sign_on_the_left left k here_at more ending c is) h

minus_on_the_left : (left : Variable) (k : Kind) (here_at : ℕ) (ts : List Token) (ending : End) (at : ℕ) → minus_in k here_at ≡ Some at
    → Moves (left_side left) (tok k here_at ∷ ts) ts ending (going (subtracting left at))
minus_on_the_left left kind.Minus here_at ts ending at h = let same : here_at ≡ at = cc in
    subst (λ (x : ℕ). Moves (left_side left) (tok kind.Minus here_at ∷ ts) ts ending (going (subtracting left x))) same
    (record { text = refl; goes = λ o. refl; shorter = omega arith })
minus_on_the_left left k here_at ts ending at h = cc

pub subtracted_on_the_left : (left : Variable) (ts rest : List Token) (ending : End) (at : ℕ) → found minus_in ts ≡ Some (at, rest) → Moves (left_side left) ts rest ending (going (subtracting left at))
subtracted_on_the_left left ts rest ending at h =
    by_first minus_in (left_side left) (λ x. going (subtracting left x)) ts rest ending at (λ k here_at more is. minus_on_the_left left k here_at more ending at is) h

neither_on_the_left : (left : Variable) (k : Kind) (here_at : ℕ) (ts : List Token) → beside (minus_in k here_at) ts ≡ None → beside (compare_in k here_at) ts ≡ None → step_left left k here_at ≡ None
neither_on_the_left left kind.Minus here_at ts a b = cc
neither_on_the_left left (kind.Compare c) here_at ts a b = cc
neither_on_the_left left k here_at ts a b = refl

pub left_stops : (left : Variable) (ts : List Token) (ending : End) (f : FormulaFault) → found minus_in ts ≡ None → (found compare_in ts ≡ None) × (f ≡ here ts ending) → LeafFault (left_side left) ts ending f
left_stops left [] ending f none h o = cut o (left_side left) ending ∙ ap Some (sym h.1)
left_stops left (t ∷ ts) ending f none h o = rw (neither_on_the_left left t.kind t.at ts none h.0) (ap Some (sym h.1))
