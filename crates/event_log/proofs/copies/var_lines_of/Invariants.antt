use Rattle.std.proofs.Common.{◌≡◌, ◌++◌, ◌+◌, ◌≤◌, drop}
use Rattle.event_log.specs.Before.{lines_from, var_lines_of}
use Rattle.event_log.proofs.copies.var_lines_of.Given as goal

abbrev pub invariant-loop-bindings : goal.invariant-loop-bindings
invariant-loop-bindings l = (l.next ≤ 3 + l.bindings-index) × (l.lines ++ lines_from l.next (drop l.bindings-index l.variables) ≡ var_lines_of l.variables)
