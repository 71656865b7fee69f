use Rattle.std.proofs.Common.{◌≡◌, ◌++◌, map, take}
use Rattle.event_log.specs.LogText.{text_of}
use Rattle.report_lines.specs.Spelling.{edge_line}
use Rattle.report.proofs.writing.put_edges.Given as goal

abbrev pub invariant-loop-edge : goal.invariant-loop-edge
invariant-loop-edge l = l.out ≡ l.fn.out ++ text_of (map (edge_line l.procs) (take l.edge-index l.edges))
