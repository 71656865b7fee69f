-- Lemmas of the crates below that those above cite by this one.
pub use Rattle.rctl_laws.proofs.Reading.{one_reading}
pub use Rattle.rctl_laws.proofs.Within.{within_is_read}
