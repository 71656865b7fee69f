-- Lemmas of the crates below that those above cite by this one.
pub use Rattle.reported_log.proofs.PassedOn.{follows_all}
