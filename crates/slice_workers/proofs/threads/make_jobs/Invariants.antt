use Rattle.std.proofs.Common.{◌≡◌}
use Rattle.std.specs.Prelude.{All}
use Rattle.slice_workers.specs.inside.Jobs.{IsJob}
use Rattle.slice_workers.proofs.threads.make_jobs.Given as goal

abbrev pub invariant-loop-before : goal.invariant-loop-before
invariant-loop-before l = record {
  same : l.seat ≡ l.fn.seat;
  jobs : All (IsJob l.table l.finals) l.jobs.items;
}
