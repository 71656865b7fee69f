-- The bytes of a class.
use Rattle.std.specs.Prelude.{ℕ, Bool}
use Rattle.pota_base.specs.Number.{is_digit}
use Rattle.pota_names.specs.Names.{is_name_byte}
use Rattle.rctl_lexer.specs.declared.run.Class.{Class}
use Rattle.rctl_lexer.specs.declared.run.Class.TheVariants as class

-- whether the byte goes on a word, or a number
abbrev pub is_of : Class → ℕ → Bool
is_of class.Word b = is_name_byte b
is_of class.Digits b = is_digit b
