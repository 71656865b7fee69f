use Rattle.certificate_next_line.specs.Coming.{lines_left}
use Rattle.certify.proofs.Fronts.{Stands}
use Rattle.certify.proofs.writing.write_lines.Given as goal

abbrev pub invariant-lines : goal.invariant-lines
invariant-lines g l =
    Stands (g.O.Sink.held l.fn.out) (g.O.Sink.held l.out) (g.O.Sink.faults l.fn.out) (g.O.Sink.faults l.out) l.fn.formula l.text l.fn.nodes l.nodes

abbrev pub decreases-lines : goal.decreases-lines
decreases-lines g l = lines_left l.nodes
