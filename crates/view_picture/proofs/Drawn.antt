-- The witness that is drawn is one of a few processes.
use Rattle.std.proofs.Common.{◌≤◌, List, [], ◌∷◌, length, arith, inl, inr}
use Rattle.std.specs.Prelude.{IfSome}
use Rattle.std.specs.List.{AllByRecursion}
use Rattle.std.proofs.lemmas.Bool.{cases_Bool}
use Rattle.run_model.specs.Cut.{Cut}
use Rattle.pota_base.specs.Limits.{most_processes}
use Rattle.witness_kinds.specs.declared.Witness.{Witness}
use Rattle.witness_kinds.specs.declared.Witness.TheVariants as witness
use Rattle.report_lines.specs.declared.kinds.WitnessText.{WitnessText}
use Rattle.report_lines.specs.Spelling.{WitnessFits, WitnessTextFits}
use Rattle.view_picture.specs.inside.Drawing.{HasFewProcesses}
use Rattle.view_picture.specs.Told.{is_drawn, first_drawn}

few_in : (lengths : Cut) (w : Witness) → length lengths ≤ most_processes → WitnessFits lengths w → HasFewProcesses w
few_in lengths witness.Nothing few fits = tt
few_in lengths (witness.Reach path) few fits = omega (arith, fits.goal.width)
few_in lengths (witness.Against path) few fits = omega (arith, fits.goal.width)
few_in lengths (witness.Always path) few fits = omega (arith, fits.goal.width)
few_in lengths witness.StuckStart few fits = tt
few_in lengths witness.StuckFinish few fits = tt
few_in lengths (witness.StuckPair first other) few fits = tt

pub few_drawn : (lengths : Cut) (ws : List WitnessText) → length lengths ≤ most_processes → AllByRecursion (WitnessTextFits lengths) ws → IfSome (first_drawn ws) (λ (w : WitnessText). HasFewProcesses w.witness)
few_drawn lengths [] few fits = tt
few_drawn lengths (w ∷ ws) few fits = elim (cases_Bool (is_drawn w.witness)) [
  | inl drawn ↦ rw drawn (few_in lengths w.witness few fits.0.witness)
  | inr other ↦ rw other (few_drawn lengths ws few fits.1)
]
