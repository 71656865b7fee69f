use Rattle.report_lines.specs.Spelling.{edge_line}
use Rattle.event_log.specs.LogText.{text_of}
use Rattle.std.proofs.Common.{map}
use Rattle.event_log.proofs.Appends.{puts_next_at}
use Rattle.report.proofs.WriteSteps.{mapped_append}
use Rattle.report.proofs.writing.put_edges.Goals as goal

pub loop-edge-preserved : goal.loop-edge-preserved
loop-edge-preserved c = puts_next_at (λ xs. text_of (map (edge_line c.args.procs.now) xs)) (mapped_append (edge_line c.args.procs.now)) c.args.out.now c.loop-edge.out c.put_edge.new.out c.args.edges.now c.loop-edge.edge-index _ c.loop-edge-test.true c.loop-edge.invariant c.in_ok-put_edge.ensures
