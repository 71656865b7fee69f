use Rattle.std.proofs.Common.{arith}
use Rattle.one_log.specs.LeftOut.{left_out_lines}
use Rattle.one_log.proofs.LeftOut.{lines_there, line_more}
use Rattle.one_log.proofs.left_out.left_out_lines.Goals as goal

pub processes-preserved : goal.processes-preserved
processes-preserved c =
    line_more c.args.names.now c.args.counts.now c.processes.i c.processes.out (left_out_lines c.args.names.now c.args.counts.now) c.index-names-i.result c.put_line.new.out
    (omega (arith, c.processes-test.true, c.min-i-end.ensures)) c.index-names-i.is c.in_ok-put_line.ensures c.processes.invariant

pub returns : goal.returns
returns c =
    lines_there c.args.names.now c.args.counts.now c.processes.i c.processes.out (left_out_lines c.args.names.now c.args.counts.now)
    (omega (arith, c.processes-test.false, c.min-i-end.ensures)) c.processes.invariant
