-- What comes next of the nodes of a certificate, and how many lines are left.
-- ---- the present rows
use Rattle.std.specs.Prelude.{ℕ, ◌+◌, ◌-◌, ◌*◌, List, length, sum, Option, None, Some}
use Rattle.run_model.specs.Cut.{lengths}
use Rattle.certificate_table.specs.Begun.{BegunView}
use Rattle.certificate_raises.specs.Canonical.{most_of}
use Rattle.certificate_raises.specs.Canonical as canonical
use Rattle.certificate_nodes.specs.Nodes.{NodesView, nodes_begun}

-- ---- how many lines are left

-- no node has more lines than these, and its own
abbrev pub most_rows : List ℕ → ℕ
most_rows lens = (sum lens + 1) * (most_of lens + 1) + most_of lens

abbrev pub rows_left : Option BegunView → ℕ
rows_left None = 0
rows_left (Some rows) = canonical.left_of rows

-- at most so many before the verdict's: those of each node that isn't begun, and what is left of
-- the present rows
abbrev pub lines_left : NodesView → ℕ
lines_left v = (length v.plan.nodes - nodes_begun v) * (most_rows (lengths v.order) + 1)
    + rows_left v.present
