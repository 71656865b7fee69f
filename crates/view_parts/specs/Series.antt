-- Reports one behind the other: the last of them, and the line of the fault of a text that is none
-- of reports.
use Rattle.std.specs.Prelude.{◌≡◌, ℕ, ◌+◌, ◌≤◌, List, [], ◌∷◌, ◌++◌, length}
use Rattle.std.specs.List.{AllByRecursion}
use Rattle.report.specs.declared.report.Report.{Report}
use Rattle.report.specs.Fault.{feeds}
use Rattle.report.specs.Spelling.{IsWellFormed, report_text}

-- the texts of these reports, one behind the other
abbrev pub texts_of : List Report → List ℕ
texts_of [] = []
texts_of (r ∷ rs) = report_text r ++ texts_of rs

-- the text is that of reports one behind the other, and this is the last of them
pub record IsLastOf (text : List ℕ) (r : Report) : Type 0 where
  pub fits : IsWellFormed r
  pub before : List Report
  pub each : AllByRecursion IsWellFormed before
  pub text_is : text ≡ texts_of before ++ report_text r

-- the texts of some reports, one behind the other, begin with these bytes
pub record BeginsReports (front : List ℕ) : Type 0 where
  pub reports : List Report
  pub each : AllByRecursion IsWellFormed reports
  pub rest : List ℕ
  pub text_is : texts_of reports ≡ front ++ rest

-- the text begins with these bytes, and so do some reports' texts
pub record IsFrontOf (text front : List ℕ) : Type 0 where
  pub rest : List ℕ
  pub text_is : text ≡ front ++ rest
  pub begins : BeginsReports front

-- the longest such bytes
pub record IsLongestFrontOf (text front : List ℕ) : Type 0 where
  pub is : IsFrontOf text front
  pub longest : (other : List ℕ) → IsFrontOf text other → length other ≤ length front

-- The text is not that of one report or more, and the line is 1 plus the number of line feeds of
-- its longest prefix with which some reports' texts begin.
pub record IsFaultInAll (text : List ℕ) (line : ℕ) : Type 0 where
  pub none : (r : Report) → IsLastOf text r → ⊥
  pub front : List ℕ
  pub is_front : IsFrontOf text front
  pub line_is : line ≡ 1 + feeds front
  pub most : (other : List ℕ) → IsFrontOf text other → feeds other ≤ feeds front
  pub longest : (other : List ℕ) → IsLongestFrontOf text other → line ≡ 1 + feeds other
