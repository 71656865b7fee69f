use Rattle.std.proofs.Common.{◌≡◌}
use Rattle.trace_gen.specs.Generated.{names_from}
use Rattle.trace_gen.proofs.whole.names.Given as goal

abbrev pub invariant-loop-index : goal.invariant-loop-index
invariant-loop-index l = l.names ≡ names_from 0 l.index
