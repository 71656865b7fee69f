-- The alternatives of a formula: what stands between its bars that are in no brackets.
use Rattle.std.specs.Prelude.{ℕ, ◌+◌, ◌-◌, Bool, true, false, ◌&&◌, not, nat_le, nat_lt, List, []}
use Rattle.std.specs.Prelude.{◌∷◌, length, take, drop, if◌then◌else◌}
use Rattle.rctl_grammar.specs.declared.token.Token.{Token}
use Rattle.view_text.specs.declared.claims.Stand.{Stand}
use Rattle.view_text.specs.declared.claims.Stand.TheVariants as stand
use Rattle.view_text.specs.declared.claims.Walk.{Walk}
use Rattle.view_text.specs.Claims.{is_plain, claim_of, walked, start, depth_behind, is_outer_bar}

-- the bytes from this one up to that one, where they are there
abbrev pub between : List ℕ → ℕ → ℕ → List ℕ
between bytes begin end =
    if nat_le begin end && nat_le end (length bytes) then take (end - begin) (drop begin bytes)
    else []

-- The texts of the alternatives, by the tokens behind so many open brackets; the first one begins
-- at this byte. A space stands on each side of a bar.
unfoldable pub alternatives : List ℕ → ℕ → ℕ → List Token → List (List ℕ)
alternatives formula begin depth [] = between formula begin (length formula) ∷ []
alternatives formula begin depth (t ∷ ts) =
    if is_outer_bar depth t.kind
    then between formula begin (t.at - 1) ∷ alternatives formula (t.at + 2) depth ts
    else alternatives formula begin (depth_behind depth t.kind) ts

abbrev pub is_first : Stand → Bool
is_first stand.First = true
is_first stand.Further = false
is_first stand.Within = false

-- each alternative begins with an operator: then each is one disjunct of the formula
unfoldable pub begin_with_operators : Walk → List Token → Bool
begin_with_operators w [] = true
begin_with_operators w (t ∷ ts) =
    not (is_first w.stand && is_plain (claim_of t.kind ts))
    && begin_with_operators (walked w t.kind ts) ts

-- the alternatives that are told of: where there are several, and each begins with an operator
abbrev pub told_alternatives : List ℕ → List Token → List (List ℕ)
told_alternatives formula tokens =
    if begin_with_operators start tokens && nat_lt 1 (length (alternatives formula 0 0 tokens))
    then alternatives formula 0 0 tokens else []
