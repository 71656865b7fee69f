use Rattle.std.proofs.Common.{◌≡◌}
use Rattle.system_tests.proofs.bounds.claim.Given as goal

abbrev pub invariant-claims : goal.invariant-claims
invariant-claims g l = l.seat.table ≡ l.table
