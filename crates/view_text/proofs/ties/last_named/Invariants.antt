use Rattle.std.proofs.Common.{◌≡◌, ◌≤◌}
use Rattle.view_text.specs.Ties.{last_named}
use Rattle.view_text.proofs.ties.last_named.Given as goal

abbrev pub invariant-loop-position : goal.invariant-loop-position
invariant-loop-position l = (l.position ≤ l.events) × (last_named l.states l.tokens l.process l.events ≡ last_named l.states l.tokens l.process l.position)

abbrev pub decreases-loop-position : goal.decreases-loop-position
decreases-loop-position l = l.position
