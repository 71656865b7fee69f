use Rattle.rctl_parts.proofs.Spelling.{parts_spelled, spelled_parts, disjuncts_spelled, spelled_disjuncts}
use Rattle.rctl_parts.proofs.laws.parts_spell_formulas.Goals as goal

pub returns-clause-conjunction : goal.returns-clause-conjunction
returns-clause-conjunction c r names ps cut = (parts_spelled r names ps cut, spelled_parts r names ps cut)

pub returns-clause-disjunction : goal.returns-clause-disjunction
returns-clause-disjunction c r names ds cut = (disjuncts_spelled r names ds cut, spelled_disjuncts r names ds cut)
