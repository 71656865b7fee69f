-- Lemmas of the crates below that those above cite by this one.
pub use Rattle.log_check.proofs.Following.{follows_first, follows_all}
