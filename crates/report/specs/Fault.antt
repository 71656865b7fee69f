-- The line of the fault of a text that is that of no report.
use Rattle.std.specs.Prelude.{◌≡◌, ℕ, ◌+◌, ◌≤◌, ◌==◌, List, ◌++◌, length, count_by}
use Rattle.pota_base.specs.declared.fault.Refused.{Refused}
use Rattle.pota_base.specs.declared.fault.Refused.TheVariants as refused
use Rattle.report.specs.declared.report.Report.{Report}
use Rattle.report.specs.declared.report.ReportFault.{ReportFault}
use Rattle.report.specs.Spelling.{IsWellFormed, report_text}

-- how many line feeds there are
abbrev pub feeds : List ℕ → ℕ
feeds bytes = count_by (λ b. b == 10) bytes

-- some report's text begins with these bytes
pub record BeginsReport (front : List ℕ) : Type 0 where
  pub report : Report
  pub fits : IsWellFormed report
  pub rest : List ℕ
  pub text_is : report_text report ≡ front ++ rest

-- the text begins with these bytes, and so does some report's text
pub record IsFront (text front : List ℕ) : Type 0 where
  pub rest : List ℕ
  pub text_is : text ≡ front ++ rest
  pub begins : BeginsReport front

-- the longest such bytes
pub record IsLongestFront (text front : List ℕ) : Type 0 where
  pub is : IsFront text front
  pub longest : (other : List ℕ) → IsFront text other → length other ≤ length front

-- The text is that of no report, and the line is 1 plus the number of line feeds of its longest
-- prefix that is a prefix of some report's text.
pub record IsFaultIn (text : List ℕ) (line : ℕ) : Type 0 where
  pub none : (r : Report) → IsWellFormed r → text ≡ report_text r → ⊥
  pub front : List ℕ
  pub is_front : IsFront text front
  pub line_is : line ≡ 1 + feeds front
  pub most : (other : List ℕ) → IsFront text other → feeds other ≤ feeds front
  pub longest : (other : List ℕ) → IsLongestFront text other → line ≡ 1 + feeds other

-- the text is that of the report
pub record IsTextOf (text : List ℕ) (r : Report) : Type 0 where
  pub fits : IsWellFormed r
  pub text_is : text ≡ report_text r

-- unless memory ran out, the fault is so
abbrev pub Faults : Refused ReportFault → (ReportFault → Type 0) → Type 0
Faults (refused.Fault f) P = P f
Faults refused.NoMemory P = Unit {0}
