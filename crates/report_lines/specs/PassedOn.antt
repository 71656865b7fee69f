-- What those above read by this crate of the ones below it.
pub use Rattle.slice_graph.specs.Edges.{edge_of}
pub use Rattle.slice_graph.specs.declared.edges.Edge.{Edge}
