use Rattle.std.proofs.Common.{◌≡◌, ◌++◌}
use Rattle.view_parts.specs.Each.{each_below}
use Rattle.view_picture.specs.Ties.{tie_from}
use Rattle.view_picture.proofs.ties.put_ties_to.Given as goal

abbrev pub invariant-loop-process : goal.invariant-loop-process
invariant-loop-process l = l.ties ≡ l.fn.ties ++ each_below l.process (tie_from l.trace.states l.columns l.event)
