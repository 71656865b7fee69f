-- Lemmas of the crates below that those above cite by this one.
pub use Rattle.certificate_canonical.proofs.Following.{whole_accepted, whole_fits}
pub use Rattle.certificate_canonical.proofs.OneText.{one_whole, one_verdict, is_front}
