-- Lemmas of the crates below that those above cite by this one.
pub use Rattle.rctl_parse.proofs.LeafSteps.{passes_on}
