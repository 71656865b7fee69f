use Rattle.meaning_laws.proofs.WitnessLemmas.{canonical_one, canonical_same}
use Rattle.meaning_laws.proofs.witness_laws.one_canonical_witness.Goals as goal

pub returns-clause-one : goal.returns-clause-one
returns-clause-one g c = canonical_one

pub returns-clause-by_the_set : goal.returns-clause-by_the_set
returns-clause-by_the_set g c = λ o. canonical_same o g.A.SetOfCuts.has
