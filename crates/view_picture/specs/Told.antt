-- What of a report is drawn.
use Rattle.std.specs.Prelude.{ℕ, Bool, true, false, List, [], ◌∷◌, ◌++◌, take, Option, None, Some}
use Rattle.std.specs.List.{flat_map, find}
use Rattle.run_model.specs.Cut.{Cut}
use Rattle.pota_base.specs.declared.shape.EventId.{EventId}
use Rattle.witness_kinds.specs.declared.Witness.{Witness}
use Rattle.witness_kinds.specs.declared.Witness.TheVariants as witness
use Rattle.slice_graph.specs.declared.edges.Edge.{Edge}
use Rattle.report_lines.specs.declared.kinds.WitnessText.{WitnessText}
use Rattle.report.specs.declared.report.SliceText.{SliceText}
use Rattle.report.specs.declared.report.Report.{Report}

-- ---- the slice

abbrev pub top_of_bounds : Option (Cut × Cut) → Option Cut
top_of_bounds None = None
top_of_bounds (Some bounds) = Some bounds.1

-- the greatest cut of the slice, where it has one
abbrev pub top_of : Option SliceText → Option Cut
top_of None = None
top_of (Some slice) = top_of_bounds slice.bounds

abbrev pub edges_of : Option SliceText → List Edge
edges_of None = []
edges_of (Some slice) = slice.edges

-- so many edges are drawn
abbrev pub most_edges : ℕ
most_edges = 40

-- ---- the witness

abbrev pub is_drawn : Witness → Bool
is_drawn witness.Nothing = false
is_drawn (witness.Reach path) = true
is_drawn (witness.Against path) = true
is_drawn (witness.Always path) = true
is_drawn witness.StuckStart = false
is_drawn witness.StuckFinish = false
is_drawn (witness.StuckPair first other) = true

-- the first of the witnesses of which something is drawn
abbrev pub first_drawn : List WitnessText → Option WitnessText
first_drawn witnesses = find (λ (w : WitnessText). is_drawn w.witness) witnesses

abbrev pub goal_in : Witness → Option Cut
goal_in (witness.Reach path) = Some path.goal
goal_in (witness.Against path) = Some path.goal
goal_in (witness.Always path) = Some path.goal
goal_in w = None

-- the goal of the witness that is drawn, if it has one
abbrev pub goal_of : Option WitnessText → Option Cut
goal_of None = None
goal_of (Some w) = goal_in w.witness

-- ---- the events that these name

abbrev pub pair_in : Witness → List EventId
pair_in (witness.StuckPair first other) = first ∷ other ∷ []
pair_in w = []

abbrev pub pair_of : Option WitnessText → List EventId
pair_of None = []
pair_of (Some w) = pair_in w.witness

abbrev pub ends_of : Edge → List EventId
ends_of e = e.cause ∷ e.effect ∷ []

-- the two of the drawn pair, and the ends of the drawn edges
abbrev pub named_in : Report → List EventId
named_in r =
    pair_of (first_drawn r.witnesses) ++ flat_map ends_of (take most_edges (edges_of r.slice))
