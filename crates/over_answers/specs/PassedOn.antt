-- What those above read by this crate of what instances come to.
pub use Rattle.instance_outcomes.specs.Answers.{IsAnswered, IsBare, IsKnownIn, header_of, run_by}
pub use Rattle.instance_outcomes.specs.declared.asking.AskFault.{AskFault}
pub use Rattle.instance_outcomes.specs.declared.asking.AskFault.TheVariants.{Barred, TooMany}
pub use Rattle.instance_outcomes.specs.declared.over.OverStop.{OverStop}
pub use Rattle.instance_outcomes.specs.declared.over.OverStop.TheVariants.{Text, Instance}
pub use Rattle.instance_outcomes.specs.declared.over.OverStop.TheVariants.{NoInstance}
pub use Rattle.instance_outcomes.specs.declared.tallied.Answered.{Answered}
