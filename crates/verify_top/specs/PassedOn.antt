-- What those above read by this crate of the ones below it.
pub use Rattle.verify_answers.specs.Asking.{AsksAbout}
