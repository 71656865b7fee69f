-- The lines of a text that begin with no space.
use Rattle.std.specs.Prelude.{ℕ, ◌==◌, List, [], ◌∷◌, ◌++◌, if◌then◌else◌}

-- where a byte is: it begins a line, or it is in one that begins with no space, or in one that does
pub data Within : Type 0 where
  beginning : Within
  outer : Within
  inner : Within

-- the line that a byte is in
abbrev pub line_of : Within → ℕ → Within
line_of beginning b = if b == 32 then inner else outer
line_of outer b = outer
line_of inner b = inner

-- the byte, where its line is kept
abbrev pub kept : Within → ℕ → List ℕ
kept beginning b = []
kept outer b = b ∷ []
kept inner b = []

-- where the byte behind it is
abbrev pub behind : Within → ℕ → Within
behind line b = if b == 10 then beginning else line

-- the lines of a text that begin with no space; where its first byte is is said
unfoldable pub outer_lines_from : Within → List ℕ → List ℕ
outer_lines_from w [] = []
outer_lines_from w (b ∷ bs) =
    kept (line_of w b) b ++ outer_lines_from (behind (line_of w b) b) bs

abbrev pub outer_lines : List ℕ → List ℕ
outer_lines text = outer_lines_from beginning text
