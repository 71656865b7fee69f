-- What those above read by this crate of the ones below it.
pub use Rattle.slice_graph.specs.Fitting.{FitsOrder}
pub use Rattle.slice_graph.specs.PullLists.{pulls_of_order}
pub use Rattle.slice_graph.specs.Views.{slice_of, SliceView, IsCut, no_row}
