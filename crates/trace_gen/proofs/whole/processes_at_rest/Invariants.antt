use Rattle.std.proofs.Common.{◌≡◌, replicate}
use Rattle.trace_gen.proofs.Clear.{resting}
use Rattle.trace_gen.proofs.whole.processes_at_rest.Given as goal

abbrev pub invariant-loop-process : goal.invariant-loop-process
invariant-loop-process l = l.processes.items ≡ replicate l._process (resting l.fn.procs)
