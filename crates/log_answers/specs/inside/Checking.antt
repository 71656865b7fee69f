-- Inside: one text written, and one item judged.
use Rattle.std.specs.Prelude.{◌≡◌, ℕ, ◌≤◌, Bool, List}
use Rattle.std.specs.Prelude.{Result, Ok, Err}
use Rattle.std.specs.Io.KnownBytes.{Appends}
use Rattle.pota_base.specs.Outside.{Rose, IsPrefix}
use Rattle.pota_base.specs.Changes.{Change, Counts, faults_of}
use Rattle.log_rules.specs.Judgement.{Judgement}
use Rattle.reported_log.specs.Aims.{Says, Aim}
use Rattle.reported_log.specs.Checking.{GoesOn, IsRefusedAs}
use Rattle.reported_log.specs.declared.reported.ReportedLog.{ReportedLog}
use Rattle.log_answers.specs.declared.stop.StopCause.{StopCause}
use Rattle.log_answers.specs.declared.stop.StopCause.TheVariants as causes
use Rattle.log_answers.specs.declared.stop.Stop.{Stop}

-- a text was to be written
abbrev pub PutsTo : {T : Type 0} → Counts → List ℕ → ℕ → List ℕ → Result T Stop → Type 0
PutsTo faults text batches written (Ok x) = written ≡ text
PutsTo faults text batches written (Err stop) =
    (stop ≡ record { batches = batches; cause = causes.Write }) × IsPrefix written text × Rose
    faults.before faults.after

pub record Puts {T : Type 0} (sink : Change) (text : List ℕ) (batches : ℕ) (result : Result T Stop)
    : Type 0 where
  pub written : List ℕ
  pub wrote : Appends sink.before sink.after written
  pub later : sink.faults_before ≤ sink.faults_after
  pub to : PutsTo (faults_of sink) text batches written result

-- an item led from one judgement to the next, and a `batch` line closed a batch or not
abbrev pub JudgeStops : StopCause → ℕ → Judgement → Judgement → Type 0
JudgeStops (causes.Refused r) n before after = IsRefusedAs before after n r
JudgeStops causes.Memory n before after = n ≡ 0
JudgeStops causes.Read n before after = ⊥
JudgeStops causes.Write n before after = ⊥

abbrev pub Judges : {X : Type 0} {P : X → Type 0} → Says X P → Aim → ReportedLog X P → Judgement
    → Judgement → Result Bool Stop → Type 0
Judges says aim check before after (Ok closed) = GoesOn says aim check before after closed
Judges says aim check before after (Err stop) =
    JudgeStops stop.cause stop.batches before after
