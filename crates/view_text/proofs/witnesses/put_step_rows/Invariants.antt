use Rattle.std.proofs.Common.{◌≡◌, ◌+◌, ◌≤◌, ◌++◌, drop, length}
use Rattle.view_text.specs.Shown.{bounds_of, is_whole, is_shown}
use Rattle.view_text.specs.Text.{folded_steps}
use Rattle.view_text.proofs.witnesses.put_step_rows.Given as goal

abbrev pub invariant-loop-k : goal.invariant-loop-k
invariant-loop-k l =
    let s = l.told.states.now in
    let tokens = l.told.tokens.now in
    let shown = is_shown s tokens (is_whole l.told.extent (length l.path.steps)) (bounds_of s tokens l.told.extent l.path) in
    (l.left_out ≤ l.k) × (l.out ++ folded_steps s shown (l.k + 1) l.left_out (drop l.k l.path.steps) ≡ l.fn.out ++ folded_steps s shown 1 0 l.path.steps)
