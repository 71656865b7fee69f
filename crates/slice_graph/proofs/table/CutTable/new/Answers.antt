use Rattle.std.proofs.Common.{List, ℕ, [], ap, ◌∙◌}
use Rattle.slice_graph.proofs.Words.{no_rows}
use Rattle.slice_graph.proofs.table.CutTable.new.Goals as goal

pub returns : goal.returns
returns c = no_rows _ _ ∙ ap (λ (lens : List ℕ). record { lens = lens; rows = [] }) c.in_ok-shape.ensures.same
