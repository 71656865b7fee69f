use Rattle.std.proofs.Common.{◌+◌, ◌-◌, ◌≤◌, sum, take, slice_index}
use Rattle.pull_system.specs.Vector.{IsAtMost}
use Rattle.pull_system.specs.Rows.{row_at}
use Rattle.conjunctions.proofs.floors.rows_with_a_cut.Given as goal

abbrev pub invariant-halves : goal.invariant-halves
invariant-halves l = record {
  order : l.known ≤ l.most;
  few : l.most ≤ slice_index l.rows.lens l.process;
  cut : 1 ≤ l.known → IsAtMost (row_at l.rows.lens l.rows.words (sum (take l.process l.rows.lens) + l.known)) l.rows.lens;
}

abbrev pub decreases-halves : goal.decreases-halves
decreases-halves l = l.most - l.known
