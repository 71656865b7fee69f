use Rattle.std.proofs.Common.{map, ◌≡◌, ◌++◌, ◌≤◌, [], false, slice_range, drop}
use Rattle.question_instances.specs.Instances.{renaming_of, scanned}
use Rattle.question_instances.proofs.instance.put_scanned.Given as goal

abbrev pub invariant-loop-i : goal.invariant-loop-i
invariant-loop-i l = record {
  within : l.from ≤ l.i;
  same : l.fn.out ++ scanned (map renaming_of l.names) false [] l.text ≡ l.out ++ scanned (map renaming_of l.names) l.after (slice_range l.text l.from l.i) (drop l.i l.text);
}
