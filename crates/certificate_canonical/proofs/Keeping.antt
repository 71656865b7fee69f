-- What stands of nodes stands behind each line that follows.
use Rattle.std.proofs.Common.{sym, subst}
use Rattle.certificate_lines.specs.declared.line.Line.{Line}
use Rattle.certificate_lines.specs.declared.line.Line.TheVariants.{Node, Row, Raise, Verdict}
use Rattle.certificate_nodes.specs.Nodes.{NodesView, AreNodes}
use Rattle.certificate_nodes.proofs.Keeping.{node_keeps, begun_keeps, raised_keeps, verdict_keeps}
use Rattle.certificate.specs.Following.{Follows}

pub all_kept : (v : NodesView) (l : Line) (after : NodesView) → AreNodes v → Follows v l after → AreNodes after
all_kept v (Node number) after nodes h = node_keeps v after number nodes h.0 h.1
all_kept v (Row row other) after nodes h = subst AreNodes (sym h.1) (begun_keeps v row other nodes h.0)
all_kept v (Raise k x) after nodes h = subst AreNodes (sym h.1) (raised_keeps v k x nodes h.0)
all_kept v (Verdict told) after nodes h = verdict_keeps v after told nodes h.0 h.1
