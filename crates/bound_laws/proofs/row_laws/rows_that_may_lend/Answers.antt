use Rattle.std.proofs.Common.{refl, arith}
use Rattle.raise_machine.proofs.Raising.{lend_bound, has_start-true, has_start-bottom, has_start-event}
use Rattle.bound_laws.proofs.row_laws.rows_that_may_lend.Goals as goal

pub returns-clause-least : goal.returns-clause-least
returns-clause-least c = λ system row other v w of_row of_other above. of_other.least v record {
  vector = of_row.closed.vector;
  above = above;
  closed = of_row.closed.closed;
}

pub returns-clause-lends : goal.returns-clause-lends
returns-clause-lends c = λ system words bounds row other process there has.
    lend_bound system words bounds row other process _ there (omega arith) (has_start-true system.lens words row other has)

pub returns-clause-bottom : goal.returns-clause-bottom
returns-clause-bottom c = λ lens words row. has_start-bottom lens words row 0 refl

pub returns-clause-event : goal.returns-clause-event
returns-clause-event c = λ lens words row e there. has_start-event lens words row _ e there refl
