-- A document as a reader of the Test Anything Protocol takes it: by its lines that begin with no
-- space, of which the first two are the version and the plan.
use Rattle.std.specs.Prelude.{◌≡◌, ◌⊎◌, ⊤, ℕ, ◌+◌, ◌==◌, List, [], ◌∷◌, ◌++◌, length, codes}
use Rattle.std.specs.Prelude.{Some, slice_get, if◌then◌else◌}
use Rattle.std.specs.Fmt.{decimal}
use Rattle.ask_text.specs.Lines.{outer_lines}

-- ---- the lines that are seen

-- a line that has begun and that no line feed ends
abbrev pub unfinished : List ℕ → List (List ℕ)
unfinished [] = []
unfinished (b ∷ bs) = (b ∷ bs) ∷ []

-- the lines of a text without their line feeds; what the first one begins with is said
unfoldable pub lines_from : (begun : List ℕ) → List ℕ → List (List ℕ)
lines_from begun [] = unfinished begun
lines_from begun (b ∷ bs) =
    if b == 10 then begun ∷ lines_from [] bs else lines_from (begun ++ b ∷ []) bs

-- the lines that begin with no space
abbrev pub seen_lines : List ℕ → List (List ℕ)
seen_lines document = lines_from [] (outer_lines document)

-- ---- what they say

abbrev pub ok_line : ℕ → List ℕ → List ℕ
ok_line number question = codes "ok " ++ decimal number ++ codes " - " ++ question

abbrev pub not_ok_line : ℕ → List ℕ → List ℕ
not_ok_line number question = codes "not ok " ++ decimal number ++ codes " - " ++ question

-- of a document, the line of the question of that number, from 1, is `ok`, its number and its text
abbrev pub SaysOk : (document : List ℕ) → (number : ℕ) → (question : List ℕ) → Type 0
SaysOk document number question =
    slice_get (seen_lines document) (number + 1) ≡ Some (ok_line number question)

-- it is `not ok`, its number and its text
abbrev pub SaysNotOk : (document : List ℕ) → (number : ℕ) → (question : List ℕ) → Type 0
SaysNotOk document number question =
    slice_get (seen_lines document) (number + 1) ≡ Some (not_ok_line number question)

-- ---- all of them

-- each line is that of a question, in order; the first question has this number
abbrev pub AreResults : ℕ → (questions lines : List (List ℕ)) → Type 0
AreResults number [] [] = ⊤
AreResults number [] (line ∷ lines) = ⊥
AreResults number (q ∷ qs) [] = ⊥
AreResults number (q ∷ qs) (line ∷ lines) =
    ((line ≡ ok_line number q) ⊎ (line ≡ not_ok_line number q)) × AreResults (number + 1) qs lines

-- what is seen of the document is the version, the plan of so many questions, and their lines
pub record HasLines (document : List ℕ) (questions : List (List ℕ)) : Type 0 where
  pub results : List (List ℕ)
  pub seen : seen_lines document
      ≡ codes "TAP version 14" ∷ (codes "1.." ++ decimal (length questions)) ∷ results
  pub each : AreResults 1 questions results
