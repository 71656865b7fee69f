-- What those above read by this crate of the ones below it.
pub use Rattle.log_answers.specs.PassedOn.{HasClosed, IsCheckOf, Aim, said_by, Says, unknown_name}
pub use Rattle.log_answers.specs.PassedOn.{taken_for, ReportedLog, aim_of, AreWatches, rules_of}
pub use Rattle.log_answers.specs.PassedOn.{IsFree, MayFollow, names_of, watches_of, asked_of}
pub use Rattle.log_answers.specs.PassedOn.{IsTrueSoFar, IsCheckedLog, observed_alone, CheckedLog}
