use Rattle.meaning_laws.proofs.PartLemmas.{joined_disjuncts}
use Rattle.meaning_laws.proofs.formula_laws.joined_disjuncts_show_the_formula.Goals as goal

pub returns : goal.returns
returns c = joined_disjuncts
