-- Lemmas of the crates below that those above cite by this one.
pub use Rattle.slice_graph.proofs.Events.{event_of_row}
