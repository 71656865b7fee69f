-- What workers are handed, and what they hand back.
use Rattle.std.specs.Prelude.{◌≡◌, ℕ, List}
use Rattle.bound_table.specs.Views.{TableView}
use Rattle.slice_workers.specs.declared.job.Job.{Job}
use Rattle.slice_workers.specs.declared.job.Done.{Done}
use Rattle.bound_table.specs.Firm.{AreFinal}
use Rattle.slice_workers.specs.inside.Reaching.{AreHanded}

-- the seat is of the table, and its floor has reached the final rows
pub record IsJob (table : TableView) (finals : List ℕ) (job : Job) : Type 0 where
  pub fits : job.seat.table ≡ table
  pub known : AreFinal table.system job.seat.floor finals

-- the seat is of the table, and its floor has reached the rows of the processes that are handed
-- back
pub record IsDone (table : TableView) (done : Done) : Type 0 where
  pub fits : done.seat.table ≡ table
  pub handed : AreHanded table.system done.seat.floor done.handed
