-- The witnesses of an answer to disjuncts.
use Rattle.std.specs.Prelude.{Bool, true, false, List}
use Rattle.run_model.specs.Run.{Run}
use Rattle.run_model.specs.Formula.{Formula}
use Rattle.report_lines.specs.declared.kinds.WitnessText.{WitnessText}
use Rattle.run_report.specs.Witnesses.{AreTextsOfTrue, AreTextsOfFalse}

-- those that go with the truth of the disjuncts: of all parts of the first true one, or where none
-- is true of the first false part of each
abbrev pub AreWitnessesOf : Run → List (List Formula) → Bool → List WitnessText → Type 0
AreWitnessesOf r ds true ws = AreTextsOfTrue r 1 ds ws
AreWitnessesOf r ds false ws = AreTextsOfFalse r 1 ds ws
