use Rattle.std.proofs.Common.{◌≡◌}
use Rattle.layer_rows.proofs.Settling.{SettledBefore}
use Rattle.layer_rows.proofs.slice_making.least_rows.Given as goal

abbrev pub invariant-loop-row : goal.invariant-loop-row
invariant-loop-row g l = record {
  lens : l.rows.lens ≡ l.system.lens;
  settled : SettledBefore l.system l.row l.rows.words;
}
