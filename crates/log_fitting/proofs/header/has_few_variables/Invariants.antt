use Rattle.std.proofs.Common.{ℕ, ◌≤◌, [], length, get_or, take}
use Rattle.pota_base.specs.Limits.{most_variables}
use Rattle.log_fitting.proofs.header.has_few_variables.Given as goal

abbrev pub invariant-loop-bindings : goal.invariant-loop-bindings
invariant-loop-bindings l = (p : ℕ) → length (get_or (take l.bindings-index l.bindings-items) p []) ≤ most_variables
