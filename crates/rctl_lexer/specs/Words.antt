-- The words that are more than names.
use Rattle.std.specs.Prelude.{ℕ, List, if◌then◌else◌, codes}
use Rattle.std.specs.Str.{bytes_eq}
use Rattle.rctl_grammar.specs.declared.token.Word.{Word}
use Rattle.rctl_grammar.specs.declared.token.Word.TheVariants as word

-- what a word is where it is no name
unfoldable pub word_of : List ℕ → Word
word_of w =
    if bytes_eq w (codes "EF") then word.Ef
    else if bytes_eq w (codes "AG") then word.Ag
    else if bytes_eq w (codes "EG") then word.Eg
    else if bytes_eq w (codes "EX") then word.Ex
    else if bytes_eq w (codes "AF") then word.Af
    else if bytes_eq w (codes "AX") then word.Ax
    else if bytes_eq w (codes "E") then word.E
    else if bytes_eq w (codes "A") then word.A
    else if bytes_eq w (codes "U") then word.U
    else if bytes_eq w (codes "true") then word.True
    else if bytes_eq w (codes "false") then word.False
    else if bytes_eq w (codes "intransit") then word.InTransit
    else if bytes_eq w (codes "empty") then word.Empty
    else word.Plain
