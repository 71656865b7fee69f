-- What the verifier answers where no count rose and there was memory, of a source that tells its
-- bytes: each answer comes exactly in its case.
use Rattle.std.specs.Prelude.{◌≡◌, ℕ, true, Bool, List, [], Option, Some, None}
use Rattle.std.specs.Io.KnownBytes.{Appends}
use Rattle.pota_base.specs.Outside.{Rose}
use Rattle.pota_base.specs.Status.{code_of}
use Rattle.pota_base.specs.declared.status.Status.TheVariants as status
use Rattle.rctl_grammar.specs.declared.fault.FormulaFault.{FormulaFault}
use Rattle.rctl_grammar.specs.declared.tree.Tree.{Tree}
use Rattle.fault_kinds.specs.declared.refusal.Refusal.{Refusal}
use Rattle.log_rules.specs.Judgement.{Prefix}
use Rattle.log_part.specs.Fronts.{due_of_front}
use Rattle.certificate_text.specs.Bytes.{Judged, RefusedAt}
use Rattle.certificate.specs.Following.{Follows}
use Rattle.fault_line.specs.declared.fault.Fault.TheVariants as fault
use Rattle.fault_line.specs.Faults.{fault_of_refusal}
use Rattle.verify_answers.specs.declared.answer.Answer.{Answer}
use Rattle.verify_answers.specs.declared.answer.Answer.TheVariants.{Accepted, Refused, Faulty}
use Rattle.verify_answers.specs.declared.answer.Verified.{Verified}
use Rattle.verify_answers.specs.Asking.{AsksAbout, AskNothing, HasFormulaFault}
use Rattle.verify_answers.specs.Telling.{line_of, verified_as}
use Rattle.verify_top.specs.Asking.{aim_for, start_of}
use Rattle.verify_top.specs.Verifying.{certificate_of}

-- no count rose, and there was memory
abbrev pub IsCalm : (lf lf' of of' : ℕ) → Verified → Type 0
IsCalm lf lf' of of' v =
    (Rose lf lf' → ⊥) × (Rose of of' → ⊥) × (v.status ≡ code_of status.OutOfMemory → ⊥)

-- this is the answer, and its line was written
pub record Tells (held held' : Option (List ℕ)) (answer : Answer) (v : Verified) : Type 0 where
  pub verified : v ≡ verified_as answer
  pub wrote : Appends held held' (line_of answer)

-- the certificate that stands behind the log is judged: it is accepted or refused exactly where its
-- lines are
pub record IsJudgedSo (t : Tree) (log : Prefix) (bytes : List ℕ) (held held' : Option (List ℕ))
    (v : Verified) : Type 0 where
  pub accepted : (truth : Bool)
      → Judged Follows (certificate_of bytes) (start_of t log) [] truth
      → Tells held held' (Accepted truth) v
  pub refused : (n : ℕ) → RefusedAt Follows (certificate_of bytes) (start_of t log) [] n
      → Tells held held' (Refused n) v

-- a log without a fault is whole, and the certificate behind it is judged
abbrev pub IsDecidedSo : Option (List ℕ) → List (List ℕ) → Option (List ℕ) → Option (List ℕ)
    → Verified → Type 0
IsDecidedSo left words held held' v =
    (bytes : List ℕ) (t : Tree) → left ≡ Some bytes → AsksAbout words t
    → (due_of_front (aim_for t) true bytes).fault ≡ None
    → (log : Prefix) × ((due_of_front (aim_for t) true bytes).whole ≡ Some log)
    × IsJudgedSo t log bytes held held' v

-- a fault that is due of the log is the answer
abbrev pub IsRefusedAsDue : Option (List ℕ) → List (List ℕ) → Option (List ℕ) → Option (List ℕ)
    → Verified → Type 0
IsRefusedAsDue left words held held' v =
    (bytes : List ℕ) (t : Tree) (why : Refusal) → left ≡ Some bytes → AsksAbout words t
    → (due_of_front (aim_for t) true bytes).fault ≡ Some why
    → Tells held held' (Faulty (fault_of_refusal why)) v

-- and so is a fault of the words or of their formula
pub record IsRefusedAsAsked (words : List (List ℕ)) (held held' : Option (List ℕ)) (v : Verified)
    : Type 0 where
  pub usage : AskNothing words → Tells held held' (Faulty fault.Usage) v
  pub formula : (f : FormulaFault) → HasFormulaFault words f
      → Tells held held' (Faulty (fault.Formula f)) v
