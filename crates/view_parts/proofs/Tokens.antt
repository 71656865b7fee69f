-- Looking for something among the tokens of a formula, one token further.
use Rattle.std.proofs.Common.{◌≡◌, ℕ, ◌+◌, ◌<◌, Bool, true, false, List, [], ◌∷◌, length, drop, refl, sym, ap, ◌∙◌, arith}
use Rattle.std.proofs.lemmas.Bool.{true≢false}
use Rattle.std.proofs.lemmas.List.{drop-drop, drop_all}
use Rattle.rctl_grammar.specs.declared.token.Token.{Token}
use Rattle.view_parts.specs.Naming.{beginning, names}
use Rattle.view_parts.specs.declared.naming.Sought.{Sought}
use Rattle.view_parts.specs.declared.naming.Sought.TheVariants as sought

pub named_here : (begin : List Token → Bool) (ts : List Token) → begin [] ≡ false → begin ts ≡ true → names begin ts ≡ true
unfolding names
named_here begin [] none h = absurd (true≢false (sym h ∙ none))
named_here begin (t ∷ ts) none h = rw h refl

named_later : (begin : List Token → Bool) (ts : List Token) → begin ts ≡ false → names begin ts ≡ names begin (drop 1 ts)
unfolding names
named_later begin [] h = refl
named_later begin (t ∷ ts) h = rw h refl

pub named_next : (begin : List Token → Bool) (ts : List Token) (i : ℕ) → begin (drop i ts) ≡ false → names begin (drop i ts) ≡ names begin (drop (i + 1) ts)
named_next begin ts i h = named_later begin (drop i ts) h ∙ ap (names begin) (drop-drop 1 i ts)

pub named_nowhere : (begin : List Token → Bool) (ts : List Token) (i : ℕ) → length ts < i + 1 → names begin (drop i ts) ≡ false
unfolding names
named_nowhere begin ts i h = ap (names begin) (drop_all i ts (omega arith))

-- nothing is named where there is no token
pub begins_nothing : (s : Sought) → beginning s [] ≡ false
begins_nothing (sought.Variable process variable) = refl
begins_nothing (sought.Owner process) = refl
begins_nothing (sought.Channel sender receiver) = refl
begins_nothing (sought.Watch process) = refl
begins_nothing sought.Next = refl
