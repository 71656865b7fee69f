-- What a line does to the reader of lines, kind by kind.
use Rattle.std.specs.Prelude.{◌≡◌, ℕ, ◌+◌, List, [], ◌∷◌, ◌++◌, Option, None}
use Rattle.std.specs.Prelude.{Some, unwrap_or, Result, Ok, Err, IsErr}
use Rattle.pota_base.specs.declared.fault.NoMemory.{NoMemory}
use Rattle.pota_base.specs.declared.fault.Refused.{Refused}
use Rattle.pota_base.specs.declared.fault.Refused.TheVariants as refused
use Rattle.log_lines.specs.declared.draft.LineError.{LineError}
use Rattle.log_lines.specs.declared.draft.LineError.TheVariants as error
use Rattle.log_lines.specs.Reading.{procs_in}
use Rattle.event_log.specs.declared.item.LogCode.{LogCode}
use Rattle.event_log.specs.declared.item.Item.{Item}
use Rattle.event_log.specs.declared.item.Item.TheVariants as item
use Rattle.event_log.specs.declared.line_reader.LineReader.{LineReader}
use Rattle.event_log.specs.declared.line_reader.Stage.{Stage}
use Rattle.event_log.specs.declared.line_reader.Stage.TheVariants as stage
use Rattle.event_log.specs.Before.{Line, version_in, version, variables, variables_after}
use Rattle.event_log.specs.Before.{events, Told, gives, refuses, told}
use Rattle.event_log.specs.Lines.{HasReadLines}

-- what was read, and this fault where it was malformed
abbrev pub RefusedAs : {A : Type 0} → Result A LineError → LogCode → Result A (Refused LogCode)
    → Type 0
RefusedAs (Ok x) code answer = answer ≡ Ok x
RefusedAs (Err error.Malformed) code answer = answer ≡ Err (refused.Fault code)
RefusedAs (Err error.NoMemory) code answer = answer ≡ Err refused.NoMemory

-- an answer that says what a line gives that has no item, unless memory ran out
abbrev pub JudgedAs : {A : Type 0} → Result A (Refused LogCode) → Told → Type 0
JudgedAs (Ok x) told = told ≡ gives []
JudgedAs (Err (refused.Fault code)) told = told ≡ refuses code
JudgedAs (Err refused.NoMemory) told = Unit {0}

abbrev pub JudgedItem : Result Item (Refused LogCode) → Told → Type 0
JudgedItem (Ok i) told = told ≡ gives (i ∷ [])
JudgedItem (Err (refused.Fault code)) told = told ≡ refuses code
JudgedItem (Err refused.NoMemory) told = Unit {0}

-- the fault of what was judged, where it has one
abbrev pub IsFaultOf : {A : Type 0} → Result A (Refused LogCode)
    → Result (Option LogCode) NoMemory → Type 0
IsFaultOf (Ok x) answer = answer ≡ Ok None
IsFaultOf (Err (refused.Fault code)) answer = answer ≡ Ok (Some code)
IsFaultOf (Err refused.NoMemory) answer = IsErr answer

abbrev pub events_after : Item → ℕ → ℕ
events_after (item.Event e) n = n + 1
events_after (item.Header h) n = n
events_after item.BatchEnd n = n
events_after item.End n = n

abbrev pub stage_after : Item → Stage
stage_after (item.Event e) = stage.Body
stage_after (item.Header h) = stage.Body
stage_after item.BatchEnd = stage.Body
stage_after item.End = stage.Ended

-- the first line more
pub record TakesHeading (old new : LineReader) (line : Line) : Type 0 where
  pub lines_are : new.lines ≡ old.lines + 1
  pub version_is : new.version ≡ unwrap_or (version_in line) 1
  pub procs_are : new.procs ≡ old.procs
  pub variables_are : new.variables ≡ old.variables
  pub events_are : new.events ≡ old.events
  pub stage_is : new.stage ≡ old.stage

-- one `procs` line more
pub record TakesProcs (old new : LineReader) (line : Line) : Type 0 where
  pub lines_are : new.lines ≡ old.lines + 1
  pub version_is : new.version ≡ old.version
  pub procs_are : new.procs ≡ unwrap_or (procs_in line) []
  pub variables_are : new.variables ≡ old.variables
  pub events_are : new.events ≡ old.events
  pub stage_is : new.stage ≡ old.stage

-- one `vars` line more
pub record TakesVars (old new : LineReader) (line : Line) : Type 0 where
  pub lines_are : new.lines ≡ old.lines + 1
  pub version_is : new.version ≡ old.version
  pub procs_are : new.procs ≡ old.procs
  pub variables_are : new.variables ≡ variables_after old.procs old.variables line
  pub events_are : new.events ≡ old.events
  pub stage_is : new.stage ≡ old.stage

-- one line more, which gave this item
pub record Passes (old new : LineReader) (i : Item) : Type 0 where
  pub lines_are : new.lines ≡ old.lines + 1
  pub version_is : new.version ≡ old.version
  pub procs_are : new.procs ≡ old.procs
  pub variables_are : new.variables ≡ old.variables
  pub events_are : new.events ≡ events_after i old.events
  pub stage_is : new.stage ≡ stage_after i

-- what a line behind the header gave, which stands behind the items before, unless memory ran out
abbrev pub TakesBody : {A : Type 0} → Told → LineReader → List Item → Result A (Refused LogCode)
    → List Item → LineReader → Type 0
TakesBody told old before (Ok x) after new =
    (i : Item) × ((told ≡ gives (i ∷ [])) × (after ≡ before ++ i ∷ []) × Passes old new i)
TakesBody told old before (Err (refused.Fault code)) after new =
    (told ≡ refuses code) × (after ≡ before)
TakesBody told old before (Err refused.NoMemory) after new = Unit {0}

-- what the reader has once it has taken the line behind these
pub record LineTaken (older : List Line) (line : Line) (before : List Item) (fault : Option LogCode)
    (after : List Item) (new : LineReader) : Type 0 where
  pub items_are : after ≡ before ++ (told older line).items
  pub fault_is : (told older line).fault ≡ fault
  pub reads : fault ≡ None → HasReadLines new (line ∷ older)

-- What the lines so far and one line more give stands behind the items before, unless memory ran
-- out. Without a fault the reader has read that line too.
abbrev pub TakesLine : LineReader → Line → List Item → Option LogCode → List Item → LineReader
    → Type 0
TakesLine old line before fault after new =
    (older : List Line) → HasReadLines old older → LineTaken older line before fault after new
