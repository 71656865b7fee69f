-- What is told of an answer: its line, its status, and the line of a fault.
-- ---- how an answer is told
use Rattle.std.specs.Prelude.{◌≡◌, ◌⊎◌, ℕ, ◌++◌, Bool, true, false, List, [], ◌∷◌, codes}
use Rattle.std.specs.Prelude.{Option, None, Some}
use Rattle.std.specs.Fmt.{decimal}
use Rattle.std.specs.Io.KnownBytes.{Appends}
use Rattle.pota_base.specs.Outside.{Rose, AppendsPrefix}
use Rattle.pota_base.specs.Status.{code_of}
use Rattle.pota_base.specs.Changes.{Change}
use Rattle.fault_line.specs.declared.fault.Fault.{Fault}
use Rattle.fault_line.specs.declared.fault.Fault.TheVariants as fault
use Rattle.fault_line.specs.Faults.{status_of}
use Rattle.fault_line.specs.Lines.{line_by}
use Rattle.verify_answers.specs.declared.answer.Answer.{Answer}
use Rattle.verify_answers.specs.declared.answer.Answer.TheVariants.{Accepted, Refused, Faulty}
use Rattle.verify_answers.specs.declared.answer.Verified.{Verified}

abbrev pub truth_text : Bool → List ℕ
truth_text true = codes "true"
truth_text false = codes "false"

-- the line that an answer writes, and nothing where there is a fault
abbrev pub line_of : Answer → List ℕ
line_of (Accepted told) = codes "accepted " ++ (truth_text told ++ 10 ∷ [])
line_of (Refused n) = codes "refused line " ++ (decimal n ++ 10 ∷ [])
line_of (Faulty f) = []

-- 0 for an accepted certificate, 1 for a refused one, else the status of the fault
abbrev pub verified_as : Answer → Verified
verified_as (Accepted told) = record { status = 0; fault = None }
verified_as (Refused n) = record { status = 1; fault = None }
verified_as (Faulty f) = record { status = code_of (status_of f); fault = Some f }

-- the line was written, or a front of it and then a write failed
abbrev pub IsTold : (sink : Change) → Answer → Verified → Type 0
IsTold sink (Faulty f) v = (v ≡ verified_as (Faulty f)) × Appends sink.before sink.after []
IsTold sink answer v =
    ((v ≡ verified_as answer) × Appends sink.before sink.after (line_of answer))
    ⊎ ((v ≡ verified_as (Faulty fault.Write)) × Rose sink.faults_before sink.faults_after
    × AppendsPrefix sink.before sink.after (line_of answer))

-- ---- the line that tells of a fault

-- which words are taken
abbrev pub usage_line : List ℕ
usage_line = codes "pota_verify: usage: pota_verify FORMULA" ++ 10 ∷ []

abbrev pub fault_line_of : Option Fault → List ℕ
fault_line_of None = []
fault_line_of (Some fault.Usage) = usage_line
fault_line_of (Some f) = line_by (codes "pota_verify") (Some f)
