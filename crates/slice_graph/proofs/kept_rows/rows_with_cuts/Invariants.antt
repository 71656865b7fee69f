use Rattle.std.proofs.Common.{◌≡◌, ℕ, ◌+◌, ◌-◌, ◌<◌, ◌≤◌, length}
use Rattle.run_model.specs.Cut.{IsWithin}
use Rattle.pull_system.specs.Rows.{row_at}
use Rattle.slice_graph.proofs.kept_rows.rows_with_cuts.Given as goal

abbrev pub invariant-halves : goal.invariant-halves
invariant-halves l = record {
  order : l.known ≤ l.most;
  few : l.most ≤ l.count;
  width : length l.room ≡ length l.rows.lens;
  cut : (a : ℕ) → a + 1 ≡ l.known → IsWithin (row_at l.rows.lens l.rows.words (l.first + a)) l.rows.lens;
  past : l.most < l.count → IsWithin (row_at l.rows.lens l.rows.words (l.first + l.most)) l.rows.lens → ⊥;
}

abbrev pub decreases-halves : goal.decreases-halves
decreases-halves l = l.most - l.known
