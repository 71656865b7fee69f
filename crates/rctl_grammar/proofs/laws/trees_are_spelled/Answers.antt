use Rattle.rctl_grammar.proofs.Shapes.{tree-disjunction}
use Rattle.rctl_grammar.proofs.laws.trees_are_spelled.Goals as goal

pub returns : goal.returns
returns c = tree-disjunction
