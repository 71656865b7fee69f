-- What a formula says of the initial cut, in words: by the operator that each member of each
-- disjunct begins with.
use Rattle.std.specs.Prelude.{ℕ, ◌+◌, ◌-◌, Bool, true, false, ◌&&◌, ◌||◌, not, ◌==◌, List, [], ◌∷◌}
use Rattle.std.specs.Prelude.{◌++◌, codes, if◌then◌else◌}
use Rattle.std.specs.List.{list_any}
use Rattle.std.specs.Str.{bytes_eq}
use Rattle.rctl_grammar.specs.declared.token.Kind.{Kind}
use Rattle.rctl_grammar.specs.declared.token.Kind.TheVariants as kind
use Rattle.rctl_grammar.specs.declared.token.Word.{Word}
use Rattle.rctl_grammar.specs.declared.token.Word.TheVariants as word
use Rattle.rctl_grammar.specs.declared.token.Token.{Token}
use Rattle.view_text.specs.declared.claims.Claim.{Claim}
use Rattle.view_text.specs.declared.claims.Claim.TheVariants as claim
use Rattle.view_text.specs.declared.claims.Stand.{Stand}
use Rattle.view_text.specs.declared.claims.Stand.TheVariants as stand
use Rattle.view_text.specs.declared.claims.Walk.{Walk}

-- ---- members

abbrev pub is_name_sign : Kind → Bool
is_name_sign kind.Dot = true
is_name_sign kind.At = true
is_name_sign k = false

-- whether the tokens begin with `.` or `@`, so that the word before them is a process's name
abbrev pub follow_a_name : List Token → Bool
follow_a_name [] = false
follow_a_name (t ∷ ts) = is_name_sign t.kind

abbrev pub claim_of_word : Word → Claim
claim_of_word word.Ef = claim.Ef
claim_of_word word.Ag = claim.Ag
claim_of_word word.Eg = claim.Eg
claim_of_word word.Ex = claim.Ex
claim_of_word w = claim.Plain

-- what a member says that begins with this token
abbrev pub claim_of : Kind → List Token → Claim
claim_of (kind.Word w name) rest = if follow_a_name rest then claim.Plain else claim_of_word w
claim_of k rest = claim.Plain

abbrev pub phrase : Claim → List ℕ
phrase claim.Ef = codes "some order leads to a cut where the operand of EF holds"
phrase claim.Ag = codes "the operand of AG holds at each cut of each order"
phrase claim.Eg = codes "in some order the operand of EG holds at each cut"
phrase claim.Ex = codes "the operand of EX holds right behind the next event of its process"
phrase claim.Plain = codes "what stands under no operator holds where nothing has happened yet"

-- what joins a member with those before it in its disjunct
abbrev pub joint : Stand → List ℕ
joint stand.First = []
joint stand.Further = codes ", and "
joint stand.Within = []

abbrev pub is_within : Stand → Bool
is_within stand.Within = true
is_within s = false

abbrev pub is_plain : Claim → Bool
is_plain claim.Plain = true
is_plain c = false

-- what is said of a token: the claim of the member that begins with it. The members of a disjunct
-- that have no operator are told of once
abbrev pub said : Walk → Claim → List ℕ
said w c =
    if is_within w.stand || (is_plain c && w.plain) then [] else joint w.stand ++ phrase c

-- ---- the walk over the tokens

abbrev pub depth_behind : ℕ → Kind → ℕ
depth_behind depth kind.OpenRound = depth + 1
depth_behind depth kind.OpenSquare = depth + 1
depth_behind depth kind.CloseRound = depth - 1
depth_behind depth kind.CloseSquare = depth - 1
depth_behind depth k = depth

abbrev pub is_bar : Kind → Bool
is_bar kind.Bar = true
is_bar k = false

abbrev pub is_amp : Kind → Bool
is_amp kind.Amp = true
is_amp k = false

-- `|` and `&` part members where no bracket is open
abbrev pub stand_behind : ℕ → Kind → Stand
stand_behind depth k =
    if not (depth == 0) then stand.Within
    else if is_bar k then stand.First else if is_amp k then stand.Further else stand.Within

-- whether the token is a bar that is in no brackets: a disjunct ends before it
abbrev pub is_outer_bar : ℕ → Kind → Bool
is_outer_bar depth k = depth == 0 && is_bar k

abbrev pub plain_behind : Walk → Kind → Claim → Bool
plain_behind w k c =
    not (is_outer_bar w.depth k) && (w.plain || (not (is_within w.stand) && is_plain c))

abbrev pub walked : Walk → Kind → List Token → Walk
walked w k rest = record {
  depth = depth_behind w.depth k;
  stand = stand_behind w.depth k;
  plain = plain_behind w k (claim_of k rest);
}

abbrev pub start : Walk
start = record { depth = 0; stand = stand.First; plain = false }

-- the claims of each disjunct, by the tokens; those of the first one begin with this text
unfoldable pub disjunct_claims : Walk → List ℕ → List Token → List (List ℕ)
disjunct_claims w text [] = text ∷ []
disjunct_claims w text (t ∷ ts) =
    if is_outer_bar w.depth t.kind then text ∷ disjunct_claims (walked w t.kind ts) [] ts
    else disjunct_claims (walked w t.kind ts) (text ++ said w (claim_of t.kind ts)) ts

-- ---- what several disjuncts say is said once

abbrev pub is_among : List ℕ → List (List ℕ) → Bool
is_among text texts = list_any (λ (other : List ℕ). bytes_eq other text) texts

abbrev pub or_word : List (List ℕ) → List ℕ
or_word [] = []
or_word (text ∷ texts) = codes "; or "

-- nothing is told of a text that is one of the earlier ones
abbrev pub told_new : List (List ℕ) → List ℕ → List ℕ
told_new earlier text = if is_among text earlier then [] else or_word earlier ++ text

-- the texts behind these earlier ones, each once
unfoldable pub told_once : List (List ℕ) → List (List ℕ) → List ℕ
told_once earlier [] = []
told_once earlier (text ∷ texts) = told_new earlier text ++ told_once (earlier ++ text ∷ []) texts

-- the claims of a formula, by its tokens
abbrev pub claims : List Token → List ℕ
claims tokens = told_once [] (disjunct_claims start [] tokens)
