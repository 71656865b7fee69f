-- What those above read by this crate of the ones below it.
pub use Rattle.batch_answers.specs.Outcome.{outcome_of, fault_of, faulty_outcome}
pub use Rattle.batch_answers.specs.PassedOn.{Aim, AreWatches, said_by, IsCheckOf, Says, asked_of}
pub use Rattle.batch_answers.specs.PassedOn.{aim_of, names_of, watches_of, rules_of, unknown_name}
pub use Rattle.batch_answers.specs.Reading.{HasChecked}
