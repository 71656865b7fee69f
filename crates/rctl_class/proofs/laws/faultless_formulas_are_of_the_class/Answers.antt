use Rattle.rctl_class.proofs.Class.{of_the_class}
use Rattle.rctl_class.proofs.laws.faultless_formulas_are_of_the_class.Goals as goal

pub returns : goal.returns
returns c = of_the_class
