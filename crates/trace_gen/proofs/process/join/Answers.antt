use Rattle.std.proofs.Common.{max, arith}
use Rattle.cut_lattice.proofs.Steps.{done_none, done_max}
use Rattle.trace_gen.proofs.process.join.Goals as goal

pub loop-i-init : goal.loop-i-init
loop-i-init c = done_none max c.args.other.now c.args.clock.now

pub returns : goal.returns
returns c = done_max c.args.other.now c.args.clock.now c.loop-i.clock c.loop-i.i c.loop-i.invariant (omega arith) (omega arith)
