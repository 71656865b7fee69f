use Rattle.meaning_laws.proofs.PartLemmas.{conjunctive_disjunctive, disjunct_closed, disjuncts_regular, disjuncts_kept}
use Rattle.std.proofs.Common.{true}
use Rattle.meaning_laws.proofs.formula_laws.disjuncts_have_regular_parts.Goals as goal

pub returns-clause-of_the_class : goal.returns-clause-of_the_class
returns-clause-of_the_class c = λ f. conjunctive_disjunctive f true

pub returns-clause-parts : goal.returns-clause-parts
returns-clause-parts c = λ f. disjuncts_regular f true

pub returns-clause-kept : goal.returns-clause-kept
returns-clause-kept c = λ r f. disjuncts_kept r f true

pub returns-clause-closed : goal.returns-clause-closed
returns-clause-closed c = disjunct_closed
