use Rattle.model_laws.proofs.Texts.{one_text, text_there, text_denotes}
use Rattle.model_laws.proofs.text_laws.one_text_of_a_closed_set.Goals as goal

pub returns-clause-denotes : goal.returns-clause-denotes
returns-clause-denotes g c = λ o order. text_denotes o order g.A.SetOfCuts.has

pub returns-clause-there : goal.returns-clause-there
returns-clause-there g c = λ o order. text_there o order g.A.SetOfCuts.has

pub returns-clause-one : goal.returns-clause-one
returns-clause-one g c = λ o. one_text o g.A.SetOfCuts.has
