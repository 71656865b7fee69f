-- The lines that tell how many events of each process torn logs leave out.
use Rattle.std.specs.Prelude.{ℕ, List, [], ◌∷◌, ◌++◌, codes, Option, None, Some}
use Rattle.std.specs.Fmt.{decimal}
use Rattle.one_log.specs.declared.fault.Fault.{Fault}
use Rattle.one_log.specs.Faults.{line_of}

abbrev pub left_out_line : (name : List ℕ) → (count : ℕ) → List ℕ
left_out_line name count = codes "pota_log: events of "
    ++ (name ++ (codes " left out: " ++ (decimal count ++ 10 ∷ [])))

-- one for each process
abbrev pub left_out_lines : (names : List (List ℕ)) → (counts : List ℕ) → List ℕ
left_out_lines [] counts = []
left_out_lines (name ∷ names) [] = []
left_out_lines (name ∷ names) (count ∷ counts) =
    left_out_line name count ++ left_out_lines names counts

-- what is told: why no log is written, or what it leaves out
abbrev pub told_of : (words : List (List ℕ)) → Option Fault → (lines : List ℕ) → List ℕ
told_of words None lines = lines
told_of words (Some f) lines = line_of words (Some f)
