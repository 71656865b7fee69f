-- What those above read by this crate of the ones below it.
pub use Rattle.report_lines.specs.PassedOn.{Edge, edge_of}
pub use Rattle.report_lines.specs.Spelling.{formula_line, verdict_line, slice_line}
pub use Rattle.report_lines.specs.declared.kinds.WitnessText.{WitnessText}
