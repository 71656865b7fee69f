use Rattle.trace_gen.proofs.Loops.{MadeSoFar}
use Rattle.trace_gen.proofs.whole.make_events.Given as goal

abbrev pub invariant-loop-number : goal.invariant-loop-number
invariant-loop-number l = MadeSoFar l.fn.seed l.fn.procs l.fn.count l.events l.number l.words l.processes
