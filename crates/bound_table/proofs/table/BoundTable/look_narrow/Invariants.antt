use Rattle.bound_table.specs.Kept.{FollowsFirst}
use Rattle.bound_table.specs.Views.{KeepsClaims}
use Rattle.bound_table.proofs.table.BoundTable.look_narrow.Given as goal

abbrev pub invariant-loop-process : goal.invariant-loop-process
invariant-loop-process l = record {
  keeps : KeepsClaims l.fn.seat l.seat;
  follows : FollowsFirst l.self.system l.row l.process l.fn.seat.floor l.seat.floor l.into;
}
