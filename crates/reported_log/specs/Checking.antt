-- A log that is checked item by item: what is known of it behind its items so far.
use Rattle.std.specs.Prelude.{◌≡◌, Bool, Option, None, Some}
use Rattle.answering.specs.PassedOn.{Kept}
use Rattle.log_rules.specs.Judgement.{Judgement}
use Rattle.log_check.specs.PassedOn.{Observation}
use Rattle.log_check.specs.PassedOn.{GrowingView}
use Rattle.answering.specs.Going as answering
use Rattle.log_check.specs.PassedOn.{Closes}
use Rattle.log_check.specs.Checking as log_checking
use Rattle.reported_log.specs.declared.reported.ReportedLog.{ReportedLog}
use Rattle.reported_log.specs.Aims.{Says, Aim, taken_for}
pub use Rattle.log_check.specs.Checking.{MayFollow, HasClosed, IsFree, IsRefusedAs}

-- the next answer may begin from what is kept, on what was observed, and before the header on
-- anything
abbrev pub MayAnswer : {X : Type 0} {P : X → Type 0} → Kept → Option (Observation X P) → Type 0
MayAnswer kept None = (growing : GrowingView) → answering.GoesOn kept growing
MayAnswer kept (Some o) = answering.GoesOn kept o.growing

-- what was handed in is kept, the items so far are judged so, and the next answer may begin
pub record IsCheckOf {X : Type 0} {P : X → Type 0} (says : Says X P) (aim : Aim)
    (check : ReportedLog X P) (j : Judgement) : Type 0 where
  pub log : log_checking.IsCheckOf says (taken_for aim) check.log j
  pub shown : check.shown ≡ aim.shown
  pub answers : MayAnswer check.answering.kept check.log.intake.observation

-- an item more led from one judgement to the next
pub record GoesOn {X : Type 0} {P : X → Type 0} (says : Says X P) (aim : Aim)
    (check : ReportedLog X P) (before after : Judgement) (closed : Bool) : Type 0 where
  pub is : IsCheckOf says aim check after
  pub closes : Closes closed before after
