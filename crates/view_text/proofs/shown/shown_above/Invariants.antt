use Rattle.std.proofs.Common.{◌≡◌, ◌≤◌}
use Rattle.view_text.specs.Shown.{kept_at, shown_above}
use Rattle.view_text.proofs.shown.shown_above.Given as goal

abbrev pub invariant-loop-left : goal.invariant-loop-left
invariant-loop-left l =
    let kept = kept_at l.told.states.now l.told.tokens.now l.process in
    (l.position ≤ l.events) × (shown_above kept l.limit l.events ≡ shown_above kept l.left l.position)

abbrev pub decreases-loop-left : goal.decreases-loop-left
decreases-loop-left l = l.position
