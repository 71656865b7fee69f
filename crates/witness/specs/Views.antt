-- What the code's values are in the model of runs.
pub use Rattle.witness_kinds.specs.Views.{place_of, places_of, path_of, witness_of}
use Rattle.run_model.specs.Witness.{WitnessOperator, ForEf, ForAg, ForEg}
use Rattle.run_model.specs.Witness.{ExistsNext}
use Rattle.witness.specs.declared.cases.Explained.{Explained}
use Rattle.witness.specs.declared.cases.Explained.TheVariants as explained

-- the operator of a part
abbrev pub operator_of : Explained → WitnessOperator
operator_of explained.ForEf = ForEf
operator_of explained.ForAg = ForAg
operator_of explained.ForEg = ForEg
operator_of (explained.ExistsNext process) = ExistsNext process
