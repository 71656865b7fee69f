-- The lines of a text, and the records of two lines that they are.
use Rattle.std.specs.Prelude.{ℕ, ◌+◌, Bool, true, false, ◌&&◌, ◌||◌, ◌==◌, List, [], ◌∷◌, length}
use Rattle.std.specs.Prelude.{count_by, Option, None, Some, if◌then◌else◌}
use Rattle.std.specs.Option.{option_map}
use Rattle.log_lines.specs.Reading.{choose}

abbrev pub Line : Type 0
Line = List ℕ

-- the lines with a byte in front of the first one; behind the last line feed the byte begins a line
-- only where an unfinished line counts
abbrev pub begun : Bool → ℕ → List Line → List Line
begun unfinished b [] = if unfinished then (b ∷ []) ∷ [] else []
begun unfinished b (line ∷ lines) = (b ∷ line) ∷ lines

-- the lines of these bytes without their line feeds; bytes behind the last line feed are one more
-- where an unfinished line counts
unfoldable pub lines_in : Bool → List ℕ → List Line
lines_in unfinished [] = []
lines_in unfinished (b ∷ bytes) =
    if b == 10 then [] ∷ lines_in unfinished bytes
    else begun unfinished b (lines_in unfinished bytes)

-- how many line feeds the bytes have
abbrev pub feeds : List ℕ → ℕ
feeds bytes = count_by (λ b. b == 10) bytes

-- where a host line is due, an empty line, a line of one carriage return, and a line that begins
-- with a parenthesis are none
abbrev pub is_passed : Line → Bool
is_passed [] = true
is_passed (b ∷ rest) = (b == 13 && length rest == 0) || b == 40

-- the bytes before the first space, and those behind it
unfoldable pub parted : Line → Option (List ℕ × List ℕ)
parted [] = None
parted (b ∷ rest) = if b == 32 then Some ([], rest)
    else option_map (λ x. (b ∷ x.0, x.1)) (parted rest)

-- a record of the text: the number of its host line, counted from 1, the host, and the text of the
-- clock
pub record Record : Type 0 where
  pub line : ℕ
  pub host : List ℕ
  pub clock : List ℕ

-- the record of a host line; without a space it has neither host nor clock
abbrev pub record_in : ℕ → Line → Record
record_in n line = choose (parted line)
    (λ x. record { line = n; host = x.0; clock = x.1 })
    (record { line = n; host = []; clock = [] })

-- the records of lines that are numbered from n on; first a host line is due, or else the
-- description behind one
unfoldable pub records_in : Bool → ℕ → List Line → List Record
records_in is_due n [] = []
records_in true n (line ∷ lines) =
    if is_passed line then records_in true (n + 1) lines
    else record_in n line ∷ records_in false (n + 1) lines
records_in false n (line ∷ lines) = records_in true (n + 1) lines

-- whether a host line is due behind the lines
unfoldable pub is_due_behind : Bool → List Line → Bool
is_due_behind is_due [] = is_due
is_due_behind true (line ∷ lines) = is_due_behind (is_passed line) lines
is_due_behind false (line ∷ lines) = is_due_behind true lines
