use Rattle.std.proofs.Common.{◌≡◌, replicate}
use Rattle.trace_gen.specs.Generated.{opening}
use Rattle.trace_gen.proofs.whole.all_variables.Given as goal

abbrev pub invariant-loop-process : goal.invariant-loop-process
invariant-loop-process l = l.vars ≡ replicate l._process opening
