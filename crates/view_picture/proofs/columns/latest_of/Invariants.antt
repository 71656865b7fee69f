use Rattle.std.proofs.Common.{◌≡◌, ℕ, ◌<◌, [], length, get_or}
use Rattle.view_picture.specs.inside.Placing.{latest_of}
use Rattle.view_picture.proofs.columns.latest_of.Given as goal

abbrev pub invariant-loop-process : goal.invariant-loop-process
invariant-loop-process l = record {
  count : length l.latest.items ≡ l.process;
  each : (p : ℕ) → p < l.process → get_or l.latest.items p [] ≡ latest_of l.rows p;
}
