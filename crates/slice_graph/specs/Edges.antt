-- The edges of a slice as code gives them.
use Rattle.run_model.specs.Slice.{Edge as EdgeOfRun}
use Rattle.slice_graph.specs.declared.edges.Edge.{Edge}

-- the edge between two events, by their processes and positions
abbrev pub edge_of : Edge → EdgeOfRun
edge_of e = record {
  cause = e.cause.process;
  cause_position = e.cause.position;
  effect = e.effect.process;
  effect_position = e.effect.position;
}
