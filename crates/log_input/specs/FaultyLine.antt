-- The text of the line that a fault is at.
use Rattle.std.specs.Prelude.{ℕ, ◌+◌, ◌==◌, List, [], ◌∷◌, take, get_or}
use Rattle.std.specs.List.{slice_split}
use Rattle.pota_base.specs.Limits.{longest_log}
use Rattle.fault_kinds.specs.declared.refusal.Refusal.{Refusal}
use Rattle.fault_kinds.specs.declared.refusal.Refusal.TheVariants as refusal
use Rattle.log_input.specs.declared.form.Form.{Form}
use Rattle.log_input.specs.declared.form.Form.TheVariants as form

-- the line of this number, counted from 1, without its line feed, empty where there is none
abbrev pub line_at : (number : ℕ) → (bytes : List ℕ) → List ℕ
line_at number bytes = get_or ([] ∷ slice_split (λ b. b == 10) bytes) number []

-- the line that a fault is at; 0 where it is told at no line of the bytes
abbrev pub line_number : Refusal → ℕ
line_number (refusal.Log f) = f.line
line_number (refusal.Import f) = f.line
line_number (refusal.Formula f) = 0
line_number (refusal.Merge f) = 0

-- in bytes
abbrev pub longest_shown_line : ℕ
longest_shown_line = 120

-- what is shown of the line of a fault in these bytes
abbrev pub shown_line : Refusal → (bytes : List ℕ) → List ℕ
shown_line r bytes = take longest_shown_line (line_at (line_number r) bytes)

-- What is shown of the line of a fault of an input. Of one log and of records of two lines as many
-- bytes as a log can have are kept, and one more; of several logs none is.
abbrev pub faulty_line : Form → Refusal → (read : List ℕ) → List ℕ
faulty_line form.OneLog r read = shown_line r (take (longest_log + 1) read)
faulty_line form.Clocks r read = shown_line r (take (longest_log + 1) read)
faulty_line form.Merged r read = []
