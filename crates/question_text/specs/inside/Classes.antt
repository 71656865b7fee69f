-- The classes of bytes.
use Rattle.std.specs.Prelude.{ℕ, Bool}
use Rattle.pota_names.specs.Names.{is_name_byte}
use Rattle.question_text.specs.Bytes.{is_blank, is_title_byte, is_no_colon}
use Rattle.question_text.specs.declared.bytes.Class.{Class}
use Rattle.question_text.specs.declared.bytes.Class.TheVariants as class

-- whether a byte is one of the class
abbrev pub is_of : Class → ℕ → Bool
is_of class.Blank = is_blank
is_of class.Word = is_name_byte
is_of class.Title = is_title_byte
is_of class.NoColon = is_no_colon
