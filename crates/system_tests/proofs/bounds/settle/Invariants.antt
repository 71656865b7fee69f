use Rattle.std.proofs.Common.{◌≡◌}
use Rattle.system_tests.proofs.bounds.settle.Given as goal

abbrev pub invariant-rows : goal.invariant-rows
invariant-rows g l = l.seat.table ≡ l.table
