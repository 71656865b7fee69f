-- That pictures are well-formed XML, as statements.
use Rattle.std.specs.Prelude.{◌≡◌, ℕ, true, List}
use Rattle.std.specs.List.{AllByRecursion, list_all}
use Rattle.pota_names.specs.Names.{is_name}
use Rattle.event_log.specs.declared.log.Binding.{Binding}
use Rattle.event_log.specs.declared.log.Header.{Header}
use Rattle.event_log.specs.LogText.{HeaderFits}
use Rattle.event_log.specs.States.{StatesView}
use Rattle.report.specs.declared.report.Report.{Report}
use Rattle.report.specs.Spelling.{IsWellFormed}
use Rattle.view_parts.specs.declared.extent.Extent.{Extent}
use Rattle.view_picture.specs.Columns.{Rows}
use Rattle.view_picture.specs.Picture.{picture, IsPictureOf}
use Rattle.view_top.specs.declared.asking.View.TheVariants as view
use Rattle.view_top.specs.Viewing.{IsViewIn}
use Rattle.picture_laws.specs.Xml.{is_printed, IsDocument}

-- the names of processes and variables are letters, digits and `_`
pub record HasNames (h : Header) : Type 0 where
  pub procs : AllByRecursion (λ n. is_name n ≡ true) h.procs
  pub variables : AllByRecursion (AllByRecursion (λ (b : Binding). is_name b.name ≡ true)) h.vars

-- whatever a log with such names and a report with a printed formula are, and whatever the columns
abbrev pub PicturesAreWellFormed : Type 0
PicturesAreWellFormed =
    (s : StatesView) (rows : Rows) (r : Report) → HasNames s.header
    → list_all is_printed r.formula ≡ true → IsDocument (picture s rows r)

-- so the picture of a run by a report of it is well-formed, where its log has a text
abbrev pub PicturesOfRunsAreWellFormed : Type 0
PicturesOfRunsAreWellFormed =
    (s : StatesView) (x : Extent) (r : Report) (bytes : List ℕ) → HeaderFits s.header
    → IsWellFormed r → IsPictureOf s x r bytes → IsDocument bytes

-- so each picture that is written of an input is well-formed, whatever the input is
abbrev pub WrittenPicturesAreWellFormed : Type 0
WrittenPicturesAreWellFormed =
    (x : Extent) (input shown : List ℕ) → IsViewIn (view.Svg x) input shown → IsDocument shown
