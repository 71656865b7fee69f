use Rattle.std.proofs.Common.{◌≡◌, length, map}
use Rattle.std.specs.List.{range_with_len}
use Rattle.pull_fans.specs.Fans.{AreTables}
use Rattle.temporal_slice.specs.NextPulls.{next_entry}
use Rattle.temporal_slice.proofs.behind_next.next_fan.Given as goal

abbrev pub invariant-loop-position : goal.invariant-loop-position
invariant-loop-position l = record {
  source : l.fan.src ≡ l.source;
  targets : l.fan.targets ≡ map (λ k. k) (range_with_len 0 (length l.child.lens));
  tables : AreTables (next_entry l.child l.process l.source) (length l.child.lens) l.position l.fan.tables;
  width : length l.asked ≡ length l.child.lens;
}
