use Rattle.std.proofs.Common.{◌≡◌, ◌≤◌, ℕ, [], ◌∷◌, length}
use Rattle.log_lines.specs.Reading.{clock_from}
use Rattle.log_lines.proofs.values.clock_from.Given as goal

abbrev pub invariant-loop-behind : goal.invariant-loop-behind
invariant-loop-behind l = (fuel : ℕ) × (length l.rest ≤ fuel) × (clock_from (length l.bytes) (l.first ∷ []) l.bytes ≡ clock_from fuel l.clock.items l.rest)

abbrev pub decreases-loop-behind : goal.decreases-loop-behind
decreases-loop-behind l = length l.rest
