use Rattle.std.proofs.Common.{◌≡◌, vec_len}
use Rattle.std.specs.Prelude.{All}
use Rattle.pull_system.specs.Vector.{IsAtMost}
use Rattle.slice_workers.specs.inside.Jobs.{IsDone}
use Rattle.slice_workers.specs.inside.Reaching.{AreHanded}
use Rattle.slice_workers.proofs.threads.meet_all.Given as goal

abbrev pub invariant-loop-done : goal.invariant-loop-done
invariant-loop-done l = record {
  table : l.seat.table ≡ l.fn.seat.table;
  rises : IsAtMost l.fn.seat.floor l.seat.floor;
  handed : AreHanded l.table.system l.seat.floor l.handed;
  dones : All (IsDone l.table) l.dones.items;
}

abbrev pub decreases-loop-done : goal.decreases-loop-done
decreases-loop-done l = vec_len l.dones
