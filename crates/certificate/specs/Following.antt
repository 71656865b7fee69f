-- What a line of a certificate may say of the nodes, what it leaves, and how much is looked up.
use Rattle.std.specs.Prelude.{◌≡◌, ℕ, ◌+◌}
use Rattle.certificate_lines.specs.declared.line.Line.{Line}
use Rattle.certificate_lines.specs.declared.line.Line.TheVariants as line
use Rattle.certificate_nodes.specs.Nodes.{NodesView, MayBeginNode, BeginsNode, MayBeginRow}
use Rattle.certificate_nodes.specs.Nodes.{with_begun_row, MayRaiseRow, with_raised_row, MayConclude}
use Rattle.certificate_nodes.specs.Nodes.{Concludes, looks_of, disjunct_looks}

-- the line is justified, and leaves these nodes
abbrev pub Follows : NodesView → Line → NodesView → Type 0
Follows v (line.Node number) after = MayBeginNode v number × BeginsNode v after
Follows v (line.Row row other) after =
    MayBeginRow v row other × (after ≡ with_begun_row v row other)
Follows v (line.Raise pull value) after =
    MayRaiseRow v pull value × (after ≡ with_raised_row v pull value)
Follows v (line.Verdict told) after = MayConclude v × Concludes v after told

-- what is looked up for a line: for one that ends a row each pull of the row's system, for a raise
-- its pull, and for the verdict, besides, each pull of each disjunct's system
abbrev pub looks_for : NodesView → Line → NodesView → ℕ
looks_for v (line.Node number) after = looks_of v.present
looks_for v (line.Row row other) after = looks_of v.present
looks_for v (line.Raise pull value) after = 1
looks_for v (line.Verdict told) after =
    looks_of v.present + disjunct_looks v.order v.plan after.slices
