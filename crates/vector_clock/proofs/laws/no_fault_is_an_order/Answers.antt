use Rattle.vector_clock.proofs.BatchLaws.{first_order}
use Rattle.vector_clock.proofs.laws.no_fault_is_an_order.Goals as goal

pub returns : goal.returns
returns c = first_order
