-- The levels and the nodes of a shape, as its canonical text has them.
use Rattle.std.proofs.Common.{ℕ, ◌+◌, max, Bool, true, false}
use Rattle.rctl_grammar.specs.Shape.{Shape, plain, not, conjunction, disjunction, under, stepped, until_of, Shapes, one, more}
use Rattle.rctl_print.specs.Canonical.{needs_brackets}
use Rattle.rctl_print.specs.declared.joint.Joint.{Joint}
use Rattle.rctl_print.specs.declared.joint.Joint.TheVariants.{Amp, Bar}

-- brackets are a level
abbrev pub levels_in : Bool → ℕ → ℕ
levels_in true n = 1 + n
levels_in false n = n

abbrev mutual
  pub levels : Shape → ℕ
  levels (plain a) = 0
  levels (not s) = 1 + levels_in (needs_brackets Amp s) (levels s)
  levels (conjunction front last) = max (levels_joined Amp front) (levels_in (needs_brackets Amp last) (levels last))
  levels (disjunction front last) = max (levels_joined Bar front) (levels_in (needs_brackets Bar last) (levels last))
  levels (under operator s) = 1 + levels_in (needs_brackets Amp s) (levels s)
  levels (stepped process s) = 1 + levels_in (needs_brackets Amp s) (levels s)
  levels (until_of all left right) = 1 + max (levels left) (levels right)

  pub levels_joined : Joint → Shapes → ℕ
  levels_joined joint (one s) = levels_in (needs_brackets joint s) (levels s)
  levels_joined joint (more front s) = max (levels_joined joint front) (levels_in (needs_brackets joint s) (levels s))

-- the node of an And or an Or stands behind its first member
abbrev pub own_node : Shapes → ℕ
own_node (one s) = 1
own_node (more front s) = 0

abbrev mutual
  pub nodes : Shape → ℕ
  nodes (plain a) = 1
  nodes (not s) = 1 + nodes s
  nodes (conjunction front last) = nodes_joined front + own_node front + nodes last
  nodes (disjunction front last) = nodes_joined front + own_node front + nodes last
  nodes (under operator s) = 1 + nodes s
  nodes (stepped process s) = 1 + nodes s
  nodes (until_of all left right) = 1 + nodes left + nodes right

  pub nodes_joined : Shapes → ℕ
  nodes_joined (one s) = nodes s
  nodes_joined (more front s) = nodes_joined front + own_node front + nodes s
