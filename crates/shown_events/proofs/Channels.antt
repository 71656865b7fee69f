-- The channels that stand among the tokens of a formula.
use Rattle.std.proofs.Common.{◌≡◌, ℕ, Bool, false, List, [], ◌∷◌, refl, ap, ◌∙◌}
use Rattle.std.specs.Prelude.{◌||◌, ◌&&◌}
use Rattle.std.specs.List.{list_any}
use Rattle.std.proofs.lemmas.Bool.{true≢false}
use Rattle.std.proofs.lemmas.List.Folds.{list_any-append}
use Rattle.run_model.specs.Run.{Name}
use Rattle.run_model.specs.Formula.{Formula, Formulas}
use Rattle.kept_runs.specs.Kept.{Pair}
use Rattle.kept_runs.specs.Naming.{channels_of, all_channels}
use Rattle.rctl_grammar.specs.declared.token.Kind.{Kind}
use Rattle.rctl_grammar.specs.declared.token.Kind.TheVariants as kind
use Rattle.rctl_grammar.specs.declared.token.Word.TheVariants as word
use Rattle.rctl_grammar.specs.declared.token.Token.{Token}
use Rattle.rctl_grammar.specs.Grammar.{Spelled, Channel, Leaf, constant, comparison, watch, transit, emptiness, difference, Unary, leaf, negation, temporal, stepping, group, until, tok, spelled, named, truth_word, atom_of, text_variable, text_channel, text_leaf, text_unary, text_side, text_disjunction}
use Rattle.rctl_grammar.specs.Shape.{plain_atom, model_atom}
use Rattle.view_parts.specs.Naming.{is_opening, is_comma, is_transit, is_word, is_some_word, begin_with_channel, names}
use Rattle.shown_events.specs.Laws.{is_pair}
use Rattle.shown_events.proofs.Patterns.{head_is, second_is, second_disjunction, Follows, hit, IsPattern}
use Rattle.shown_events.proofs.Passing.{IsBehind, pass_word, pass_sign, pass_variable, pass_side, and_false, one_found}

abbrev pub has_channel : Name → Name → Formula → Bool
has_channel s r f = list_any (is_pair s r) (channels_of f)

abbrev pub have_channel : Name → Name → Formulas → Bool
have_channel s r fs = list_any (is_pair s r) (all_channels fs)

no_transit : (s r : Name) (t : Token) (ts : List Token) → is_transit t.kind ≡ false → begin_with_channel s r (t ∷ ts) ≡ false
no_transit s r t [] h = refl
no_transit s r t (u ∷ []) h = refl
no_transit s r t (u ∷ v ∷ []) h = refl
no_transit s r t (u ∷ v ∷ w ∷ []) h = refl
no_transit s r t (u ∷ v ∷ w ∷ x ∷ ts) h = ap (λ (b : Bool). b && (is_opening u.kind && (is_word s v.kind && (is_comma w.kind && is_word r x.kind)))) h

no_channel : (s r : Name) (t : Token) (ts : List Token) → head_is is_opening ts ≡ false → begin_with_channel s r (t ∷ ts) ≡ false
no_channel s r t [] h = refl
no_channel s r t (u ∷ []) h = refl
no_channel s r t (u ∷ v ∷ []) h = refl
no_channel s r t (u ∷ v ∷ w ∷ []) h = refl
no_channel s r t (u ∷ v ∷ w ∷ x ∷ ts) h =
    ap (λ (b : Bool). is_transit t.kind && (b && (is_word s v.kind && (is_comma w.kind && is_word r x.kind)))) h ∙ and_false (is_transit t.kind)

no_comma : (s r : Name) (t u : Token) (ts : List Token) → second_is is_comma ts ≡ false → begin_with_channel s r (t ∷ u ∷ ts) ≡ false
no_comma s r t u [] h = refl
no_comma s r t u (v ∷ []) h = refl
no_comma s r t u (v ∷ w ∷ []) h = refl
no_comma s r t u (v ∷ w ∷ x ∷ ts) h =
    ap (λ (b : Bool). is_transit t.kind && (is_opening u.kind && (is_word s v.kind && (b && is_word r x.kind)))) h
    ∙ ap (λ (b : Bool). is_transit t.kind && (is_opening u.kind && b)) (and_false (is_word s v.kind))
    ∙ ap (λ (b : Bool). is_transit t.kind && b) (and_false (is_opening u.kind))
    ∙ and_false (is_transit t.kind)

sign_is_no_transit : (k : Kind) → is_some_word k ≡ false → is_transit k ≡ false
sign_is_no_transit (kind.Word w bytes) h = absurd (true≢false h)
sign_is_no_transit k h = refl

no_channel_sign : (s r : Name) (k : Kind) (at : ℕ) (ts : List Token) → is_some_word k ≡ false → begin_with_channel s r (tok k at ∷ ts) ≡ false
no_channel_sign s r k at ts h = no_transit s r (tok k at) ts (sign_is_no_transit k h)

behind_opening : (s r : Name) → IsBehind (begin_with_channel s r) is_opening
behind_opening s r = record { word = no_channel s r; sign = no_channel_sign s r }

abbrev pair_of : Channel → Pair
pair_of c = record { first = c.sender.name; second = c.receiver.name }

-- a channel behind `intransit` or `empty`, at which the pattern begins
channel_passed : (s r : Name) (c : Channel) (rest : List Token) → names (begin_with_channel s r) (text_channel c rest) ≡ names (begin_with_channel s r) rest
channel_passed s r c rest =
    let begin = begin_with_channel s r in
    let b = behind_opening s r in
    let closed = tok kind.CloseRound c.closed ∷ rest in
    let receiver = named c.receiver ∷ closed in
    let behind = tok kind.Comma c.comma ∷ receiver in
    pass_sign begin is_opening b kind.OpenRound c.opened (named c.sender ∷ behind) refl
    ∙ pass_word begin is_opening b (named c.sender) behind refl
    ∙ pass_sign begin is_opening b kind.Comma c.comma receiver refl
    ∙ pass_word begin is_opening b (named c.receiver) closed refl
    ∙ pass_sign begin is_opening b kind.CloseRound c.closed rest refl

leaf_found : (s r : Name) (l : Leaf) (rest : List Token) → Follows rest
    → names (begin_with_channel s r) (text_leaf l rest) ≡ (has_channel s r (model_atom (plain_atom (atom_of l))) || names (begin_with_channel s r) rest)
unfolding channels_of
leaf_found s r (constant value name at) rest follows = pass_word (begin_with_channel s r) is_opening (behind_opening s r) (spelled (truth_word value) name at) rest follows.opening
leaf_found s r (comparison left compare at right) rest follows =
    let begin = begin_with_channel s r in
    let b = behind_opening s r in
    let side = text_side right rest in
    let behind = tok (kind.Compare compare) at ∷ side in
    pass_variable begin is_opening b refl left behind refl
    ∙ pass_sign begin is_opening b (kind.Compare compare) at side refl
    ∙ pass_side begin is_opening b refl right rest follows.opening
leaf_found s r (watch process at name) rest follows =
    let begin = begin_with_channel s r in
    let b = behind_opening s r in
    let last = named name ∷ rest in
    pass_word begin is_opening b (named process) (tok kind.At at ∷ last) refl
    ∙ pass_sign begin is_opening b kind.At at last refl
    ∙ pass_word begin is_opening b (named name) rest follows.opening
leaf_found s r (transit name at channel compare compare_at value value_at) rest follows =
    let begin = begin_with_channel s r in
    let b = behind_opening s r in
    let last = tok (kind.Number value) value_at ∷ rest in
    let behind = tok (kind.Compare compare) compare_at ∷ last in
    let whole = spelled word.InTransit name at ∷ text_channel channel behind in
    let named_so = is_pair s r (pair_of channel) in
    one_found (names begin whole) named_so (names begin rest)
    (hit begin (spelled word.InTransit name at) (text_channel channel behind)
    ∙ ap (λ (x : Bool). named_so || x)
    (channel_passed s r channel behind
    ∙ pass_sign begin is_opening b (kind.Compare compare) compare_at last refl
    ∙ pass_sign begin is_opening b (kind.Number value) value_at rest refl))
leaf_found s r (emptiness name at channel) rest follows =
    let begin = begin_with_channel s r in
    let whole = spelled word.Empty name at ∷ text_channel channel rest in
    let named_so = is_pair s r (pair_of channel) in
    one_found (names begin whole) named_so (names begin rest)
    (hit begin (spelled word.Empty name at) (text_channel channel rest) ∙ ap (λ (x : Bool). named_so || x) (channel_passed s r channel rest))
leaf_found s r (difference left minus right compare compare_at value value_at) rest follows =
    let begin = begin_with_channel s r in
    let b = behind_opening s r in
    let last = tok (kind.Number value) value_at ∷ rest in
    let behind = tok (kind.Compare compare) compare_at ∷ last in
    let second = text_variable right behind in
    let first = tok kind.Minus minus ∷ second in
    pass_variable begin is_opening b refl left first refl
    ∙ pass_sign begin is_opening b kind.Minus minus second refl
    ∙ pass_variable begin is_opening b refl right behind refl
    ∙ pass_sign begin is_opening b (kind.Compare compare) compare_at last refl
    ∙ pass_sign begin is_opening b (kind.Number value) value_at rest refl

-- the process of an `EX` may be named as these words are, and a group may stand behind it
no_step : (s r : Name) (p : Spelled) (u : Unary) (rest : List Token) → begin_with_channel s r (named p ∷ text_unary u rest) ≡ false
no_step s r p (leaf (constant value name at)) rest = no_channel s r (named p) (text_unary (leaf (constant value name at)) rest) refl
no_step s r p (leaf (comparison left compare at right)) rest = no_channel s r (named p) (text_unary (leaf (comparison left compare at right)) rest) refl
no_step s r p (leaf (watch process at name)) rest = no_channel s r (named p) (text_unary (leaf (watch process at name)) rest) refl
no_step s r p (leaf (transit name at channel compare compare_at value value_at)) rest =
    no_channel s r (named p) (text_unary (leaf (transit name at channel compare compare_at value value_at)) rest) refl
no_step s r p (leaf (emptiness name at channel)) rest = no_channel s r (named p) (text_unary (leaf (emptiness name at channel)) rest) refl
no_step s r p (leaf (difference left minus right compare compare_at value value_at)) rest =
    no_channel s r (named p) (text_unary (leaf (difference left minus right compare compare_at value value_at)) rest) refl
no_step s r p (negation at u) rest = no_channel s r (named p) (text_unary (negation at u) rest) refl
no_step s r p (temporal operator name at u) rest = no_channel s r (named p) (text_unary (temporal operator name at u) rest) refl
no_step s r p (stepping name at process u) rest = no_channel s r (named p) (text_unary (stepping name at process u) rest) refl
no_step s r p (group opened d closed) rest =
    let behind = tok kind.CloseRound closed ∷ rest in
    no_comma s r (named p) (tok kind.OpenRound opened) (text_disjunction d behind) (second_disjunction d behind refl)
no_step s r p (until path left name at right closed) rest = no_channel s r (named p) (text_unary (until path left name at right closed) rest) refl

pub channels_are_pattern : (s r : Name) → IsPattern (begin_with_channel s r) (has_channel s r) (have_channel s r)
unfolding channels_of all_channels
channels_are_pattern s r = record {
  other = no_channel_sign s r;
  word = λ w name at ts h goes. no_transit s r (spelled w name at) ts h;
  step = no_step s r;
  leaf = leaf_found s r;
  not_is = λ f. refl;
  and_is = λ fs. refl;
  or_is = λ fs. refl;
  temporal_is = λ o f. refl;
  next_is = λ q f. refl;
  until_is = λ all f g. list_any-append (is_pair s r) (channels_of f) (channels_of g);
  nil_is = refl;
  cons_is = λ f fs. list_any-append (is_pair s r) (channels_of f) (all_channels fs);
}
