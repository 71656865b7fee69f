-- What the reader of lines keeps of the lines that it has read.
use Rattle.std.specs.Prelude.{◌≡◌, true, false, List, length}
use Rattle.event_log.specs.declared.log.Header.{Header}
use Rattle.event_log.specs.declared.line_reader.LineReader.{LineReader}
use Rattle.event_log.specs.declared.line_reader.Stage.{Stage}
use Rattle.event_log.specs.declared.line_reader.Stage.TheVariants as stage
use Rattle.event_log.specs.Before.{Line, version, names, variables}
use Rattle.event_log.specs.Before.{events, is_header_over, is_ended}

abbrev pub StageIs : Stage → List Line → Type 0
StageIs stage.Header older = (is_header_over older ≡ false) × (is_ended older ≡ false)
StageIs stage.Body older = (is_header_over older ≡ true) × (is_ended older ≡ false)
StageIs stage.Ended older = is_ended older ≡ true

-- the reader has read these lines, the newest first
pub record HasReadLines (r : LineReader) (older : List Line) : Type 0 where
  pub lines_are : r.lines ≡ length older
  pub version_is : r.version ≡ version older
  pub procs_are : r.procs ≡ names older
  pub variables_are : r.variables ≡ variables older
  pub events_are : r.events ≡ events older
  pub stage_is : StageIs r.stage older
