use Rattle.std.proofs.Common.{◌≡◌, ◌≤◌}
use Rattle.view_text.specs.Transit.{receipts}
use Rattle.view_text.proofs.transit.receipts.Given as goal

abbrev pub invariant-loop-before : goal.invariant-loop-before
invariant-loop-before l = (l.count ≡ receipts l.states l.sender l.receiver l.before) × (l.count ≤ l.before)
