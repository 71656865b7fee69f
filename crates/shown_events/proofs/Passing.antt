-- Tokens at which a pattern does not begin, by the token behind a word.
use Rattle.std.proofs.Common.{◌≡◌, ℕ, Bool, true, false, List, ◌∷◌, refl, ◌∙◌}
use Rattle.std.specs.Prelude.{◌||◌, ◌&&◌}
use Rattle.std.proofs.lemmas.Bool.{true≢false}
use Rattle.run_model.specs.Run.{Name}
use Rattle.rctl_grammar.specs.declared.token.Kind.{Kind}
use Rattle.rctl_grammar.specs.declared.token.Kind.TheVariants as kind
use Rattle.rctl_grammar.specs.declared.token.Token.{Token}
use Rattle.rctl_grammar.specs.Grammar.{Channel, Variable, RightSide, number, variable, tok, named, text_channel, text_variable, text_side}
use Rattle.view_parts.specs.Naming.{is_word, is_some_word, names}
use Rattle.shown_events.proofs.Patterns.{head_is, skip}

-- it begins with a word that such a token is behind
pub record IsBehind (begin : List Token → Bool) (next : Kind → Bool) : Type 0 where
  pub word : (t : Token) (ts : List Token) → head_is next ts ≡ false → begin (t ∷ ts) ≡ false
  pub sign : (k : Kind) (at : ℕ) (ts : List Token) → is_some_word k ≡ false → begin (tok k at ∷ ts) ≡ false

pub pass_word : (begin : List Token → Bool) (next : Kind → Bool) → IsBehind begin next → (t : Token) (ts : List Token) → head_is next ts ≡ false → names begin (t ∷ ts) ≡ names begin ts
pass_word begin next b t ts h = skip begin t ts (b.word t ts h)

pub pass_sign : (begin : List Token → Bool) (next : Kind → Bool) → IsBehind begin next → (k : Kind) (at : ℕ) (ts : List Token) → is_some_word k ≡ false → names begin (tok k at ∷ ts) ≡ names begin ts
pass_sign begin next b k at ts h = skip begin (tok k at) ts (b.sign k at ts h)

-- a channel between its brackets
pub pass_channel : (begin : List Token → Bool) (next : Kind → Bool) → IsBehind begin next → next kind.Comma ≡ false → next kind.CloseRound ≡ false → (c : Channel) (rest : List Token)
    → names begin (text_channel c rest) ≡ names begin rest
pass_channel begin next b comma close c rest =
    let closed = tok kind.CloseRound c.closed ∷ rest in
    let receiver = named c.receiver ∷ closed in
    let behind = tok kind.Comma c.comma ∷ receiver in
    let sender = named c.sender ∷ behind in
    pass_sign begin next b kind.OpenRound c.opened sender refl
    ∙ pass_word begin next b (named c.sender) behind comma
    ∙ pass_sign begin next b kind.Comma c.comma receiver refl
    ∙ pass_word begin next b (named c.receiver) closed close
    ∙ pass_sign begin next b kind.CloseRound c.closed rest refl

pub pass_variable : (begin : List Token → Bool) (next : Kind → Bool) → IsBehind begin next → next kind.Dot ≡ false → (v : Variable) (rest : List Token) → head_is next rest ≡ false
    → names begin (text_variable v rest) ≡ names begin rest
pass_variable begin next b dot v rest h =
    let last = named v.variable ∷ rest in
    pass_word begin next b (named v.process) (tok kind.Dot v.dot ∷ last) dot
    ∙ pass_sign begin next b kind.Dot v.dot last refl
    ∙ pass_word begin next b (named v.variable) rest h

pub pass_side : (begin : List Token → Bool) (next : Kind → Bool) → IsBehind begin next → next kind.Dot ≡ false → (s : RightSide) (rest : List Token) → head_is next rest ≡ false
    → names begin (text_side s rest) ≡ names begin rest
pass_side begin next b dot (number value at) rest h = pass_sign begin next b (kind.Number value) at rest refl
pass_side begin next b dot (variable v) rest h = pass_variable begin next b dot v rest h

-- ---- tests

pub and_false : (b : Bool) → (b && false) ≡ false
and_false true = refl
and_false false = refl

pub no_word : (name : Name) (k : Kind) → is_some_word k ≡ false → is_word name k ≡ false
no_word name (kind.Word w bytes) h = absurd (true≢false h)
no_word name k h = refl

-- what one name, or two, were found by, and then the rest
pub one_found : (x a r : Bool) → x ≡ (a || r) → x ≡ ((a || false) || r)
one_found x true r h = h
one_found x false r h = h

pub two_found : (x a b r : Bool) → x ≡ (a || (b || r)) → x ≡ ((a || (b || false)) || r)
two_found x true b r h = h
two_found x false true r h = h
two_found x false false r h = h
