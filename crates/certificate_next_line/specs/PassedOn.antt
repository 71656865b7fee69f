-- What those above read by this crate of the ones below it.
pub use Rattle.certificate_canonical.specs.Canonical.{IsNext, AreNext, IsWhole}
pub use Rattle.certificate_canonical.specs.PassedOn.{Follows, plan_of}
pub use Rattle.certificate_nodes.specs.Nodes.{NodesView, AreNodes, fresh_nodes}
