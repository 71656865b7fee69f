-- What is written of a question that was asked of processes: one line, and below it either how many
-- pairs of processes, or how many processes, it was asked of, or what was found against it for the
-- first of them for which it doesn't hold.
use Rattle.std.specs.Prelude.{ℕ, ◌==◌, List, [], ◌∷◌, ◌++◌, codes, Option, None, Some}
use Rattle.std.specs.Prelude.{if◌then◌else◌}
use Rattle.std.specs.Fmt.{decimal}
use Rattle.event_log.specs.States.{StatesView}
use Rattle.question_instances.specs.Instances.{Renaming, renaming_of}
use Rattle.question_instances.specs.declared.instance.Naming.{Naming}
use Rattle.view_parts.specs.declared.extent.Extent.TheVariants as extent
use Rattle.ask_text.specs.declared.over.OverQuestion.{OverQuestion}
use Rattle.ask_text.specs.Indented.{indented}
use Rattle.ask_text.specs.Text.{QuestionView, block_end, block_front, evidence, formula_tokens}
use Rattle.ask_text.specs.Text.{line_of, nowhere_lines, view_of}

-- ---- questions over processes

-- a question over processes as it was asked, of how many instances it was asked, how many of these
-- fail, in how many some part holds nowhere, and the instance that is shown, with the processes
-- that its names stand for
pub record OverView : Type 0 where
  pub text : List ℕ
  pub asked : ℕ
  pub fails : ℕ
  pub nowhere : ℕ
  pub first : Renaming
  pub second : Option Renaming
  pub shown : QuestionView

abbrev pub second_of : Option Naming → Option Renaming
second_of None = None
second_of (Some naming) = Some (renaming_of naming)

abbrev pub over_of : OverQuestion → OverView
over_of q = record {
  text = q.text.now;
  asked = q.asked;
  fails = q.fails;
  nowhere = q.nowhere;
  first = renaming_of q.first;
  second = second_of q.second;
  shown = view_of q.shown;
}

-- ---- what stands below its line

-- `p = a`: a name, and the process that it stands for
abbrev pub naming_text : Renaming → List ℕ
naming_text n = n.word ++ codes " = " ++ n.process

abbrev pub second_text : Option Renaming → List ℕ
second_text None = []
second_text (Some n) = codes ", " ++ naming_text n

-- `3 of 72`: how many fail of how many
abbrev pub fails_text : OverView → List ℕ
fails_text o = decimal o.fails ++ codes " of " ++ decimal o.asked

-- with what its block begins
abbrev pub over_front : OverView → List ℕ
over_front o =
    block_front ++ codes "for: " ++ naming_text o.first ++ second_text o.second
    ++ codes "\nfails: " ++ fails_text o ++ 10 ∷ []

-- what it was asked of, where it is one, and where there are more
abbrev pub kinds_text : Option Renaming → ℕ → List ℕ
kinds_text None asked = if asked == 1 then codes " process" else codes " processes"
kinds_text (Some n) asked =
    if asked == 1 then codes " pair of processes" else codes " pairs of processes"

-- `# asked of 72 pairs of processes`
abbrev pub asked_line : OverView → List ℕ
asked_line o =
    codes "# asked of " ++ decimal o.asked ++ kinds_text o.second o.asked ++ 10 ∷ []

-- the block of the instance that is shown; where no path shows anything, the front alone
abbrev pub over_block : StatesView → ℕ → OverView → List ℕ
over_block s steps o =
    evidence (over_front o) (over_front o ++ block_end) s (formula_tokens o.shown)
    (extent.Last steps) o.shown.form o.shown.outcome.witnesses

-- the comments on parts that hold nowhere, where some part does so in each instance
abbrev pub over_nowhere : OverView → List ℕ
over_nowhere o =
    if o.nowhere == o.asked then nowhere_lines o.shown.disjuncts o.shown.outcome.nowhere else []

abbrev pub over_below : StatesView → ℕ → OverView → List ℕ
over_below s steps o =
    (if o.fails == 0 then asked_line o else over_block s steps o) ++ over_nowhere o

-- ---- its rows

-- it holds where it fails for none
abbrev pub over_line : ℕ → OverView → List ℕ
over_line number o = line_of number (o.fails == 0) o.text

abbrev pub over_rows : StatesView → ℕ → ℕ → OverView → List ℕ
over_rows s steps number o = over_line number o ++ indented (over_below s steps o)
