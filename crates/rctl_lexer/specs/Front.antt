-- What stands at the front of a text: the longest token there, a blank, or neither.
use Rattle.std.specs.Prelude.{ℕ, ◌+◌, Bool, false, ◌&&◌, ◌||◌, ◌==◌, not, List, [], ◌∷◌, take}
use Rattle.std.specs.Prelude.{Option, Some, None, ℤ, if◌then◌else◌}
use Rattle.pota_base.specs.Number.{is_digit, signed_at, whole}
use Rattle.pota_names.specs.Names.{is_name, is_name_start, is_name_byte}
use Rattle.rctl_grammar.specs.declared.token.Kind.{Kind}
use Rattle.rctl_grammar.specs.declared.token.Kind.TheVariants as kind
use Rattle.rctl_grammar.specs.declared.tree.Compare.TheVariants as compare
use Rattle.rctl_lexer.specs.declared.front.Front.{Front}
use Rattle.rctl_lexer.specs.declared.front.Front.TheVariants as at_front
use Rattle.rctl_lexer.specs.Runs.{run_of}
use Rattle.rctl_lexer.specs.Words.{word_of}

-- a space or a tab
abbrev pub is_blank : ℕ → Bool
is_blank b = b == 32 || b == 9

-- whether a digit stands at the front
abbrev pub starts_digit : List ℕ → Bool
starts_digit [] = false
starts_digit (b ∷ bs) = is_digit b

-- whether this byte stands at the front
abbrev pub starts_with : ℕ → List ℕ → Bool
starts_with byte [] = false
starts_with byte (b ∷ bs) = b == byte

-- ---- words: the longest run of letters, digits and `_`, a name and so at most 64 bytes

unfoldable pub word_front : List ℕ → ℕ → Front
word_front text extra =
    if is_name (take (extra + 1) text)
    then at_front.Token (kind.Word (word_of (take (extra + 1) text)) (take (extra + 1) text)) extra
    else at_front.Bad

-- ---- numbers: the longest run of digits, with `-` before it or without

-- a digit, or a `-` before a digit; any other `-` is a sign
abbrev pub leads_number : ℕ → List ℕ → Bool
leads_number b rest = is_digit b || b == 45 && starts_digit rest

-- no digit follows a leading 0, and a digit other than 0 follows `-`
abbrev pub begins_number : ℕ → List ℕ → Bool
begins_number b rest =
    if b == 45 then starts_digit rest && not (starts_with 48 rest)
    else not (b == 48 && starts_digit rest)

-- the number that the text spells, where it has 64 bits
abbrev pub number_value : List ℕ → Option ℤ
number_value text = whole (signed_at text)

unfoldable pub number_front : List ℕ → ℕ → Front
number_front text extra = at_front.Token (kind.Number (number_value (take (extra + 1) text))) extra

-- ---- signs

-- the signs of one byte
unfoldable pub sign_of : ℕ → Option Kind
sign_of b =
    if b == 40 then Some kind.OpenRound
    else if b == 41 then Some kind.CloseRound
    else if b == 91 then Some kind.OpenSquare
    else if b == 93 then Some kind.CloseSquare
    else if b == 44 then Some kind.Comma
    else if b == 46 then Some kind.Dot
    else if b == 64 then Some kind.At
    else if b == 33 then Some kind.Bang
    else if b == 38 then Some kind.Amp
    else if b == 124 then Some kind.Bar
    else if b == 45 then Some kind.Minus
    else if b == 61 then Some (kind.Compare compare.Eq)
    else if b == 60 then Some (kind.Compare compare.Lt)
    else if b == 62 then Some (kind.Compare compare.Gt)
    else None

-- the signs of two bytes, by their first; the second is `=`
unfoldable pub with_equals : ℕ → Option Kind
with_equals b =
    if b == 33 then Some (kind.Compare compare.Ne)
    else if b == 60 then Some (kind.Compare compare.Le)
    else if b == 62 then Some (kind.Compare compare.Ge)
    else None

-- the sign of two bytes where there is one, else that of one
abbrev pub longer_of : Option Kind → Option Kind → Front
longer_of (Some two) one = at_front.Token two 1
longer_of None (Some one) = at_front.Token one 0
longer_of None None = at_front.Bad

unfoldable pub sign_front : ℕ → List ℕ → Front
sign_front b rest = longer_of (if starts_with 61 rest then with_equals b else None) (sign_of b)

-- ---- all of them

unfoldable pub front : List ℕ → Front
front [] = at_front.Bad
front (b ∷ rest) =
    if is_blank b then at_front.Blank
    else if is_name_start b then word_front (b ∷ rest) (run_of is_name_byte rest)
    else if leads_number b rest then
    (if begins_number b rest then number_front (b ∷ rest) (run_of is_digit rest) else at_front.Bad)
    else sign_front b rest
