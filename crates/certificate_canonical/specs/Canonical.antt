-- The next line of the canonical certificate, by what stands of the nodes.
use Rattle.std.specs.Prelude.{◌≡◌, ℕ, ◌<◌, ◌≤◌, Bool, List, [], ◌∷◌, ◌++◌, sum, All}
use Rattle.std.specs.Prelude.{Option}
use Rattle.certificate_lines.specs.declared.line.Line.{Line}
use Rattle.certificate_lines.specs.declared.line.Line.TheVariants.{Node, Row, Raise, Verdict}
use Rattle.certificate_text.specs.Running.{IsOfNode}
use Rattle.certificate_table.specs.Begun.{BegunView, LastIsClosed}
use Rattle.certificate_raises.specs.Canonical.{IsFirstFailing, after_of}
use Rattle.certificate_nodes.specs.Nodes.{NodesView, OfPresent, MayBeginNode, BeginsNode}
use Rattle.certificate_nodes.specs.Nodes.{with_begun_row, with_raised_row, MayConclude, Concludes}

-- the next row begins, behind the row that it canonically follows: the present one is closed
pub record IsNextRow (rows : BegunView) (row : ℕ) (other : Option ℕ) : Type 0 where
  pub settled : LastIsClosed rows
  pub more_rows : rows.begun ≤ sum rows.system.lens
  pub row_is : row ≡ rows.begun
  pub other_is : other ≡ after_of rows.system.lens row

-- the first pull that fails raises the present row, by the row's number at its source
pub record IsNextRaise (rows : BegunView) (k x : ℕ) : Type 0 where
  pub begun : 0 < rows.begun
  pub first : IsFirstFailing rows k x

-- The next line, and what it leaves: a raise while a pull fails, then the next row, then the next
-- node, and at last the verdict.
abbrev pub IsNext : NodesView → Line → NodesView → Type 0
IsNext v (Node number) after = MayBeginNode v number × BeginsNode v after
IsNext v (Row row other) after =
    OfPresent (λ rows. IsNextRow rows row other) v.present × (after ≡ with_begun_row v row other)
IsNext v (Raise k x) after =
    OfPresent (λ rows. IsNextRaise rows k x) v.present × (after ≡ with_raised_row v k x)
IsNext v (Verdict told) after = MayConclude v × Concludes v after told

-- each line is the next one of what the lines before it left
abbrev pub AreNext : NodesView → List Line → NodesView → Type 0
AreNext v [] after = after ≡ v
AreNext v (said ∷ rest) after = (mid : NodesView) × IsNext v said mid × AreNext mid rest after

-- canonical lines of the nodes, and then the verdict's
pub record IsWhole (v : NodesView) (lines : List Line) (told : Bool) : Type 0 where
  pub body : List Line
  pub of_nodes : All IsOfNode body
  pub mid : NodesView
  pub next : AreNext v body mid
  pub after : NodesView
  pub verdict : IsNext mid (Verdict told) after
  pub lines_are : lines ≡ body ++ Verdict told ∷ []
