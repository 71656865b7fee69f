-- A formula as a flat plan: the operands of its operators are nodes, an inner one before the outer
-- one, and each part of a conjunction asks by pulls of its own or by the slice of a node.
use Rattle.std.specs.Prelude.{ℕ, ◌<◌, ◌≤◌, ◌^◌, List, [], length, get_or, flat_map, All, ◌++◌}
use Rattle.run_model.specs.Cut.{Clocks, lengths}
use Rattle.pull_system.specs.declared.pull.Pull.{Pull}
use Rattle.pull_system.specs.System.{SystemView, IsPull}
use Rattle.slice_graph.specs.Views.{SliceView}
use Rattle.slice_graph.specs.PullLists.{pulls_of_order, pulls_of_slice}
use Rattle.temporal_slice.specs.NextPulls.{pulls_of_next}
use Rattle.rctl_grammar.specs.declared.tree.Operator.{Operator}
use Rattle.rctl_grammar.specs.declared.tree.Operator.TheVariants as operator
use Rattle.part_pulls.specs.Operating.{FitsProcesses}
use Rattle.certificate_nodes.specs.declared.plan.Asked.{Asked}
use Rattle.certificate_nodes.specs.declared.plan.Asked.TheVariants as asked
use Rattle.certificate_nodes.specs.declared.plan.Node.{Node}
use Rattle.certificate_nodes.specs.declared.plan.Plan.{Plan}

-- what is read where there is no node
abbrev pub no_node : Node
no_node = record { operator = operator.Ef; parts = [] }

abbrev pub node_at : Plan → ℕ → Node
node_at plan n = get_or plan.nodes n no_node

-- what is read where there is no disjunct
abbrev pub no_parts : List Asked
no_parts = []

abbrev pub disjunct_at : Plan → ℕ → List Asked
disjunct_at plan n = get_or plan.disjuncts n no_parts

-- what is read where there is no slice
abbrev pub no_slice : SliceView
no_slice = record { lens = []; rows = [] }

abbrev pub slice_at : List SliceView → ℕ → SliceView
slice_at slices n = get_or slices n no_slice

-- what a part asks by the slice of its node: the pulls of the slice, which is the operator's; and
-- where the operator is EX, whose node has the slice of its operand, the pulls of EX over that one
abbrev pub pulls_given : Operator → SliceView → List Pull
pulls_given operator.Ef slice = pulls_of_slice slice
pulls_given operator.Ag slice = pulls_of_slice slice
pulls_given operator.Eg slice = pulls_of_slice slice
pulls_given (operator.Ex process) slice = pulls_of_next slice process
pulls_given operator.Af slice = pulls_of_slice slice
pulls_given operator.Ax slice = pulls_of_slice slice

-- what one part asks: its own pulls, or what its node's slice gives
abbrev pub pulls_asked : Plan → List SliceView → Asked → List Pull
pulls_asked plan slices (asked.Own pulls) = pulls
pulls_asked plan slices (asked.Inner number) =
    pulls_given (node_at plan number).operator (slice_at slices number)

-- the system of a conjunction: the pulls of the order, and then those of each part in its turn
abbrev pub system_of : Clocks → Plan → List SliceView → List Asked → SystemView
system_of o plan slices parts = record {
  lens = lengths o;
  pulls = pulls_of_order o ++ flat_map (pulls_asked plan slices) parts;
}

-- the system of the node of this number, by the slices of the nodes before it
abbrev pub system_at : Clocks → Plan → List SliceView → ℕ → SystemView
system_at o plan slices n = system_of o plan slices (node_at plan n).parts

-- a part has one pull of its own at most, of these lengths, or asks by one of so many nodes
abbrev pub FitsPart : List ℕ → ℕ → Asked → Type 0
FitsPart lens nodes (asked.Own pulls) = All (IsPull lens) pulls × (length pulls ≤ 1)
FitsPart lens nodes (asked.Inner number) = number < nodes

pub record AreParts (lens : List ℕ) (nodes : ℕ) (parts : List Asked) : Type 0 where
  pub each : All (FitsPart lens nodes) parts
  pub few : length parts ≤ 2 ^ 16

-- a node's operator is analysed, and its parts ask by nodes before it alone
pub record IsNode (lens : List ℕ) (number : ℕ) (node : Node) : Type 0 where
  pub operator : FitsProcesses (length lens) node.operator
  pub parts : AreParts lens number node.parts

pub record IsPlan (lens : List ℕ) (plan : Plan) : Type 0 where
  pub few : length plan.nodes ≤ 2 ^ 16
  pub nodes : (n : ℕ) → n < length plan.nodes → IsNode lens n (node_at plan n)
  pub disjuncts : (n : ℕ) → n < length plan.disjuncts
      → AreParts lens (length plan.nodes) (disjunct_at plan n)
