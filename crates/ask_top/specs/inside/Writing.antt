-- What is written of what questions come to.
use Rattle.std.specs.Prelude.{◌≡◌, ℕ, Bool, true, false, List}
use Rattle.std.specs.Io.KnownBytes.{Appends}
use Rattle.pota_base.specs.Outside.{AppendsPrefix, Rose}
use Rattle.pota_base.specs.Changes.{Change}
use Rattle.ask_faults.specs.declared.fault.Fault.{Fault}
use Rattle.ask_faults.specs.declared.fault.Fault.TheVariants as fault
use Rattle.ask_top.specs.declared.answer.Answer.{Answer}
use Rattle.ask_top.specs.declared.answer.Answer.TheVariants as answer

-- why not all of it was written
abbrev pub Fails : List ℕ → (sink : Change) → Fault → Type 0
Fails text sink fault.Usage = ⊥
Fails text sink (fault.Question f) = ⊥
Fails text sink (fault.Unknown u) = ⊥
Fails text sink (fault.Over f) = ⊥
Fails text sink (fault.Refused r line) = ⊥
Fails text sink fault.Read = ⊥
Fails text sink fault.Write =
    AppendsPrefix sink.before sink.after text × Rose sink.faults_before sink.faults_after
Fails text sink fault.Memory = ⊥

-- the text was written, by which each question holds or some doesn't, or a front of it
abbrev pub Puts : List ℕ → (holds : Bool) → (sink : Change) → Answer → Type 0
Puts text holds sink answer.Holds = (holds ≡ true) × Appends sink.before sink.after text
Puts text holds sink answer.Fails = (holds ≡ false) × Appends sink.before sink.after text
Puts text holds sink (answer.Without f) = Fails text sink f
