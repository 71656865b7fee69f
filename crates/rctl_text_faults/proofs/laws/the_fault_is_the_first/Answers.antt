use Rattle.rctl_text_faults.proofs.First.{first_is_given, given_is_first}
use Rattle.rctl_text_faults.proofs.laws.the_fault_is_the_first.Goals as goal

pub returns : goal.returns
returns c = λ text fault. (given_is_first text fault, first_is_given text fault)
