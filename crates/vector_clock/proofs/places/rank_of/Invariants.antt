use Rattle.std.proofs.Common.{ℕ, ◌-◌, ◌<◌, ◌≤◌, length, get_or}
use Rattle.vector_clock.specs.Rising.{nothing_kept}
use Rattle.vector_clock.proofs.places.rank_of.Given as goal

abbrev pub invariant-halves : goal.invariant-halves
invariant-halves l = record {
  between : l.low ≤ l.high;
  within : l.high ≤ length l.kept;
  below : (i : ℕ) → i < l.low → (get_or l.kept i nothing_kept).message.id < l.id;
  above : (i : ℕ) → l.high ≤ i → i < length l.kept → l.id ≤ (get_or l.kept i nothing_kept).message.id;
}

abbrev pub decreases-halves : goal.decreases-halves
decreases-halves l = l.high - l.low
