-- The plan of a formula by numbers. Its nodes are the operands of its operators, an inner one
-- before the outer one and else in the order of the parts, and `before` nodes stand before the
-- first.
use Rattle.std.specs.Prelude.{ℕ, ◌+◌, List, [], ◌∷◌, ◌++◌}
use Rattle.rctl_parts.specs.Pieces.{Piece, Pieces, atom, temporal, none, more, pieces}
use Rattle.part_pulls.specs.declared.observed.Observed.{Observed}
use Rattle.part_pulls.specs.Systems.{pulls_of_atom}
use Rattle.certificate_nodes.specs.declared.plan.Asked.{Asked}
use Rattle.certificate_nodes.specs.declared.plan.Asked.TheVariants as asked
use Rattle.certificate_nodes.specs.declared.plan.Node.{Node}
use Rattle.certificate_nodes.specs.declared.plan.Plan.{Plan}

abbrev mutual
  -- how many operators a part has, and so how many nodes
  pub nodes_of : Piece → ℕ
  nodes_of (atom a) = 0
  nodes_of (temporal operator ps) = operand_nodes ps + 1

  -- how many the parts of an operand have
  pub operand_nodes : Pieces → ℕ
  operand_nodes none = 0
  operand_nodes (more p ps) = nodes_of p + operand_nodes ps

-- what a part asks: an atom by its own pulls, and an operator by the node of its operand, which
-- stands behind those within the operand
abbrev pub asked_by : Observed → ℕ → Piece → Asked
asked_by seen before (atom a) = asked.Own (pulls_of_atom seen a)
asked_by seen before (temporal operator ps) = asked.Inner (before + operand_nodes ps)

-- what each part of a conjunction asks
abbrev pub asked_by_all : Observed → ℕ → Pieces → List Asked
asked_by_all seen before none = []
asked_by_all seen before (more p ps) =
    asked_by seen before p ∷ asked_by_all seen (before + nodes_of p) ps

-- the node of an operand
abbrev pub operand_node : Observed → ℕ → Piece → List Node
operand_node seen before (atom a) = []
operand_node seen before (temporal operator ps) =
    record { operator = operator; parts = asked_by_all seen before ps } ∷ []

abbrev mutual
  -- the nodes of a part: those within its operand, and then the operand's own
  pub nodes_in : Observed → ℕ → Piece → List Node
  nodes_in seen before (atom a) = []
  nodes_in seen before (temporal operator ps) =
      nodes_in_all seen before ps ++ operand_node seen before (temporal operator ps)

  -- those of the parts of a conjunction, in their order
  pub nodes_in_all : Observed → ℕ → Pieces → List Node
  nodes_in_all seen before none = []
  nodes_in_all seen before (more p ps) =
      nodes_in seen before p ++ nodes_in_all seen (before + nodes_of p) ps

-- how many nodes a disjunct has
abbrev pub disjunct_count : List Piece → ℕ
disjunct_count ps = operand_nodes (pieces ps)

-- the nodes of some disjuncts, in their order
abbrev pub disjunct_nodes : Observed → ℕ → List (List Piece) → List Node
disjunct_nodes seen before [] = []
disjunct_nodes seen before (ps ∷ ds) =
    nodes_in_all seen before (pieces ps) ++ disjunct_nodes seen (before + disjunct_count ps) ds

-- what the parts of each disjunct ask
abbrev pub disjuncts_asked : Observed → ℕ → List (List Piece) → List (List Asked)
disjuncts_asked seen before [] = []
disjuncts_asked seen before (ps ∷ ds) =
    asked_by_all seen before (pieces ps) ∷ disjuncts_asked seen (before + disjunct_count ps) ds

-- the plan of a formula of these disjuncts
abbrev pub plan_of : Observed → List (List Piece) → Plan
plan_of seen ds =
    record { nodes = disjunct_nodes seen 0 ds; disjuncts = disjuncts_asked seen 0 ds }
