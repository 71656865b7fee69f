use Rattle.rctl_text_faults.proofs.First.{none_has_none}
use Rattle.rctl_text_faults.proofs.laws.without_a_fault_there_is_none.Goals as goal

pub returns : goal.returns
returns c = none_has_none
