-- What is left behind the token at the front.
use Rattle.std.specs.Prelude.{ℕ, ◌<◌}
use Rattle.rctl_lexer.specs.declared.front.Front.{Front}
use Rattle.rctl_lexer.specs.declared.front.Front.TheVariants as at_front

-- a token has at most so many bytes
abbrev pub IsShorter : ℕ → Front → Type 0
IsShorter len at_front.Blank = Unit {0}
IsShorter len (at_front.Token kind extra) = extra < len
IsShorter len at_front.Bad = Unit {0}
