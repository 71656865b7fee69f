use Rattle.std.proofs.Common.{◌≡◌, ◌≤◌, ℕ, Bool}
use Rattle.view_parts.specs.Parts.{place}
use Rattle.view_picture.specs.Choice.{keeps, shown_above}
use Rattle.view_picture.proofs.choice.shown_above.Given as goal

abbrev pub invariant-loop-left : goal.invariant-loop-left
invariant-loop-left l =
    let kept : ℕ → Bool = λ n. keeps l.states l.tokens l.all (place l.process n) in
    (l.position ≤ l.events) × (shown_above kept l.limit l.events ≡ shown_above kept l.left l.position)

abbrev pub decreases-loop-left : goal.decreases-loop-left
decreases-loop-left l = l.position
