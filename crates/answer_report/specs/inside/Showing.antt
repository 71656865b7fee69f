-- What is told of a slice and of parts.
use Rattle.std.specs.Prelude.{◌≡◌, ◌≤◌, Bool, true, false, List, [], ◌∷◌, ◌++◌, Option, Some, None}
use Rattle.std.specs.Prelude.{IfSome, MatchOption}
use Rattle.run_model.specs.Cut.{Clocks, lengths}
use Rattle.run_model.specs.Slice.{Cuts, IsTextOf}
use Rattle.run_model.specs.Witness as model
use Rattle.run_model.specs.Witness.{WitnessOperator, ForEf, ForAg, ForEg}
use Rattle.run_model.specs.Witness.{ExistsNext, IsCanonical}
use Rattle.rctl_grammar.specs.declared.tree.Operator.{Operator}
use Rattle.rctl_grammar.specs.declared.tree.Operator.TheVariants as operator
use Rattle.slice_graph.specs.Views.{SliceView, slice_of}
use Rattle.slice_graph.specs.Fitting.{FitsOrder}
use Rattle.conjunctions.specs.declared.answer.PartAnswer.{PartAnswer}
use Rattle.witness_kinds.specs.Views.{witness_of}
use Rattle.report_lines.specs.declared.kinds.WitnessText.{WitnessText}
use Rattle.report_lines.specs.Spelling.{WitnessTextFits}
use Rattle.report.specs.declared.report.SliceText.{SliceText}
use Rattle.run_report.specs.Reports.{text_seen}

-- the text of the slice where it is wanted
abbrev pub IsSliceTold : Bool → Clocks → SliceView → Option SliceText → Type 0
IsSliceTold true o s (Some text) = IsTextOf o (Cuts o (slice_of s)) (text_seen text)
IsSliceTold true o s None = ⊥
IsSliceTold false o s text = text ≡ None

-- the operators whose parts get a witness
abbrev pub explained : Operator → Option WitnessOperator
explained operator.Ef = Some ForEf
explained operator.Ag = Some ForAg
explained operator.Eg = Some ForEg
explained (operator.Ex process) = Some (ExistsNext process)
explained operator.Af = None
explained operator.Ax = None

-- the operand's slice, where there is one, is of the order
abbrev pub HasOperand : Clocks → PartAnswer → Type 0
HasOperand o part = IfSome part.operand (FitsOrder o)

-- the canonical witness by the slice of the operand, and none of a part without an operator
abbrev pub IsGivenFor : Clocks → Option Operator → Option SliceView → model.Witness → Type 0
IsGivenFor o None operand w = w ≡ model.Nothing
IsGivenFor o (Some op) None w = w ≡ model.Nothing
IsGivenFor o (Some op) (Some s) w =
    MatchOption (explained op) (w ≡ model.Nothing) (λ e. IsCanonical o (slice_of s) e w)

-- the numbers of a part count from 1
pub record IsNumbered (part : PartAnswer) : Type 0 where
  pub disjunct : 1 ≤ part.disjunct
  pub number : 1 ≤ part.part

-- the witness of a part, with the part's numbers; it has a spelling
pub record Tells (o : Clocks) (part : PartAnswer) (w : WitnessText) : Type 0 where
  pub disjunct : w.disjunct ≡ part.disjunct
  pub number : w.part ≡ part.part
  pub witness : IsGivenFor o part.operator part.operand (witness_of w.witness)
  pub fits : IsNumbered part → WitnessTextFits (lengths o) w

-- one witness for each part, in their order
abbrev pub TellAll : Clocks → List PartAnswer → List WitnessText → Type 0
TellAll o [] [] = Unit {0}
TellAll o [] (w ∷ ws) = ⊥
TellAll o (p ∷ parts) [] = ⊥
TellAll o (p ∷ parts) (w ∷ ws) = Tells o p w × TellAll o parts ws

-- the witness of the part is behind those that were there
pub record Adds (o : Clocks) (part : PartAnswer) (old new : List WitnessText) : Type 0 where
  pub witness : WitnessText
  pub is : new ≡ old ++ witness ∷ []
  pub tells : Tells o part witness
